use Rattle.cargo_toml_manifest.proofs.Heard.{listed_by, refused_by}
use Rattle.cargo_toml_manifest.proofs.gather.listing.Goals as goal

pub returns-clause-listed : goal.returns-clause-listed
returns-clause-listed g c =
    listed_by (g.Fs.AbstractFilesystem.names_at c.args.fs.now c.args.path.now) c.file_names_in.result c.names_of.result c.file_names_in.ensures.answers c.names_of.ensures

pub returns-clause-refused : goal.returns-clause-refused
returns-clause-refused g c =
    refused_by (g.Fs.AbstractFilesystem.may_refuse c.args.fs.now c.args.path.now) c.file_names_in.result c.names_of.result c.file_names_in.ensures.refused c.names_of.ensures
