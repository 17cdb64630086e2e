use Rattle.std.proofs.Common.{◌≡◌, length}
use Rattle.cargo_toml_resolve.proofs.RowsInOrder.{KeepsOwn, RowsState, IsFinished}
use Rattle.cargo_toml_resolve.proofs.redirects.find_redirects.Given as goal

abbrev pub invariant-loop-r : goal.invariant-loop-r
invariant-loop-r l = record {
  flags : length l.finished.items ≡ length l.is_removed;
  marks : length l.moved.items ≡ length l.is_removed;
  room : length l.walk.met ≡ length l.is_removed;
  is_finished : IsFinished l.is_removed l.r l.finished.items;
  edge_rows : RowsState l.initial.edges l.is_removed l.initial.edges (length l.initial.edges) l.r l.edges;
  label_rows : RowsState l.initial.edges l.is_removed l.initial.labels (length l.is_removed) l.r l.labels;
  own : KeepsOwn l.r l.moved.items l.initial.labels l.labels;
}
