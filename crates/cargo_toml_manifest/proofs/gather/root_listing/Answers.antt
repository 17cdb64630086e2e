use Rattle.std.proofs.Common.{[]}
use Rattle.cargo_toml_manifest.proofs.Heard.{root_heard}
use Rattle.cargo_toml_manifest.proofs.gather.root_listing.Goals as goal

pub returns-clause-listed : goal.returns-clause-listed
returns-clause-listed g c =
    let told = g.Fs.AbstractFilesystem.names_at c.args.fs.now [] in
    let sorted = c.in_ok-sorted_names.ensures in
    root_heard told c.in_ok-names.names c.in_ok-sorted_names.field-0 c.in_ok-names.ensures.answers (sorted.ordered, sorted.names)
