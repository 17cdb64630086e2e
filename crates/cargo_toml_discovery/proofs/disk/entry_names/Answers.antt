use Rattle.cargo_toml_discovery.proofs.Faults.{entry_present}
use Rattle.cargo_toml_discovery.proofs.disk.entry_names.Goals as goal

pub returns-in-Err : goal.returns-in-Err
returns-in-Err g c = entry_present c.in-Err.fault c.entry_fault.result c.entry_fault.ensures
