use Rattle.cargo_toml_write.proofs.Writers.{again, entries_again, groups_again, list_again, map_any}
use Rattle.cargo_toml_write.proofs.laws.collections_are_read_again.Goals as goal

pub returns : goal.returns
returns g c = record {
  lists = λ reads each xs. (list_again g.T.ToValue.way reads (again each)).each xs tt;
  maps = λ reads each es. (map_any {way = g.T.ToValue.way} {reads = reads} (again each)).each es tt;
  dependencies = entries_again.each;
  lints = groups_again.each;
}
