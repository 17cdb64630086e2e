use Rattle.cargo_toml_discovery.proofs.Faults.{from_entry, from_listing}
use Rattle.cargo_toml_discovery.proofs.disk.names_in.Goals as goal

pub returns-in-Err-entry_names : goal.returns-in-Err-entry_names
returns-in-Err-entry_names g c =
    from_entry c.in-Err-entry_names.fault c.from.result c.in-Err-entry_names.ensures c.from.ensures

pub returns-in-Err : goal.returns-in-Err
returns-in-Err g c = from_listing c.in-Err.fault c.listing_fault.result c.listing_fault.ensures
