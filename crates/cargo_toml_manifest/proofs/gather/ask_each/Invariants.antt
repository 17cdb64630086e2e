use Rattle.cargo_toml_manifest.proofs.Cited.{Grows, HasEach, answers_of, map, string_bytes, take}
use Rattle.cargo_toml_manifest.proofs.gather.ask_each.Given as goal

abbrev pub invariant-loop-path : goal.invariant-loop-path
invariant-loop-path g l = record {
  grows : Grows (g.Fs.AbstractFilesystem.names_at l.fs) (answers_of l.fn.listings) (answers_of l.listings);
  has : HasEach (answers_of l.listings) (map string_bytes (take l.path-index l.paths));
}
