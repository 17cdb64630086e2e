use Rattle.cargo_toml_package.specs.Targets.{target_meaning}
use Rattle.cargo_toml_write.proofs.Writers.{alone, chain, ends, reads_again, target_again, target_rows, target_way}
use Rattle.cargo_toml_write.proofs.write.dependency.TargetToValue.to_value.Goals as goal

pub returns : goal.returns
returns c =
    let written = ends target_rows (target_meaning c.args.self.now) c.finish.result c.new-writing.ensures.no_fault c.new-writing.ensures.no_key c.finish.ensures (search chain depth 80 fits 4000) in
    record { written = written; read_again = reads_again target_again _ _ written; memory = alone target_way _ _ written }
