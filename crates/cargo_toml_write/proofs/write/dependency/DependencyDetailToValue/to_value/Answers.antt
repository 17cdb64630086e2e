use Rattle.cargo_toml_write.proofs.Writers.{◌then◌, alone, chain, detail_again, detail_meaning, detail_way, ends_over, free_way, known_rows, reads_again}
use Rattle.cargo_toml_write.proofs.write.dependency.DependencyDetailToValue.to_value.Goals as goal

pub returns : goal.returns
returns c =
    let written = ends_over free_way (λ d. d.unstable) known_rows (detail_meaning c.args.self.now) c.finish.result c.over-writing.ensures c.finish.ensures
    (c.optional.ensures then c.optional-2.ensures then c.optional-3.ensures then c.optional-4.ensures then search chain depth 40 fits 4000) in
    record { written = written; read_again = reads_again detail_again (detail_meaning c.args.self.now) _ written; memory = alone detail_way (detail_meaning c.args.self.now) _ written }
