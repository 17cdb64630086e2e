use Rattle.cargo_toml_parts.specs.Products.{product_meaning}
use Rattle.cargo_toml_write.proofs.Writers.{◌then◌, alone, chain, ends, product_again, product_rows, product_way, reads_again}
use Rattle.cargo_toml_write.proofs.write.tables.ProductToValue.to_value.Goals as goal

pub returns : goal.returns
returns c =
    let written = ends product_rows (product_meaning c.args.self.now) c.finish.result c.new-writing.ensures.no_fault c.new-writing.ensures.no_key c.finish.ensures
    (c.optional.ensures then c.optional-2.ensures then c.flag.ensures then c.flag-2.ensures then search chain depth 80 fits 4000) in
    record { written = written; read_again = reads_again product_again _ _ written tt; memory = alone product_way _ _ written tt }
