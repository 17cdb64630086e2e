use Rattle.cargo_toml_write.proofs.Writers.{alone, chain, ends, inherited_again, inherited_meaning, inherited_rows, inherited_way, reads_again}
use Rattle.cargo_toml_write.proofs.write.dependency.InheritedDependencyDetailToValue.to_value.Goals as goal

pub returns : goal.returns
returns c =
    let written = ends inherited_rows (inherited_meaning c.args.self.now) c.finish.result c.new-writing.ensures.no_fault c.new-writing.ensures.no_key c.finish.ensures (search chain depth 80 fits 4000) in
    record { written = written; read_again = reads_again inherited_again _ _ written tt; memory = alone inherited_way _ _ written tt }
