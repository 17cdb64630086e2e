use Rattle.cargo_toml_write.proofs.Writers.{◌then_same◌, ◌then◌, alone, done, ends, profile_again, profile_meaning, profile_rows, profile_way, reads_again}
use Rattle.cargo_toml_write.proofs.write.tables.ProfileToValue.to_value.Goals as goal

pub returns : goal.returns
returns c =
    let written = ends profile_rows (profile_meaning c.args.self.now) c.finish.result c.new-writing.ensures.no_fault c.new-writing.ensures.no_key c.finish.ensures
    (c.optional.ensures then c.optional-2.ensures then_same c.optional-3.ensures then
    c.optional-4.ensures then_same c.optional-5.ensures then_same c.optional-6.ensures then_same
    c.optional-7.ensures then_same c.optional-8.ensures then c.optional-9.ensures then_same
    c.optional-10.ensures then_same c.optional-11.ensures then_same c.given.ensures then
    c.optional-12.ensures then c.optional-13.ensures then done) in
    record { written = written; read_again = reads_again profile_again _ _ written tt; memory = alone profile_way _ _ written }
