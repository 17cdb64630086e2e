use Rattle.cargo_toml_write.proofs.Writers.{alone, badges_again, badges_meaning, badges_rows, badges_way, chain, ends, reads_again}
use Rattle.cargo_toml_write.proofs.write.tables.BadgesToValue.to_value.Goals as goal

pub returns : goal.returns
returns c =
    let written = ends badges_rows (badges_meaning c.args.self.now) c.finish.result c.new-writing.ensures.no_fault c.new-writing.ensures.no_key c.finish.ensures (search chain depth 80 fits 4000) in
    record { written = written; read_again = reads_again badges_again _ _ written tt; memory = alone badges_way _ _ written tt }
