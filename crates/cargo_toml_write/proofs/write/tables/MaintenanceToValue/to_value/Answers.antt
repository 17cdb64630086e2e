use Rattle.cargo_toml_write.proofs.Writers.{alone, chain, ends, maintenance_again, maintenance_rows, maintenance_way, reads_again}
use Rattle.cargo_toml_write.proofs.write.tables.MaintenanceToValue.to_value.Goals as goal

pub returns : goal.returns
returns c =
    let written = ends maintenance_rows c.args.self.now.status c.finish.result c.new-writing.ensures.no_fault c.new-writing.ensures.no_key c.finish.ensures (search chain depth 80 fits 4000) in
    record { written = written; read_again = reads_again maintenance_again _ _ written tt; memory = alone maintenance_way _ _ written tt }
