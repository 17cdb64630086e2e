use Rattle.cargo_toml_features.proofs.Cited.{Ascend, IsMerged, IsMergedInOrder, List, StandAt, Text, Told, drop, length, listed_of, listing_names, take, texts_in, told_of, vertex_names, ◌++◌, ◌+◌, ◌≡◌}
use Rattle.cargo_toml_features.proofs.vertices.Merge.list_each.Given as goal

abbrev pub invariant-loop-listing : goal.invariant-loop-listing
invariant-loop-listing l = record {
  in_order : IsMergedInOrder l.self;
  below : (us : List Text) → Ascend (vertex_names l.initial.self.all.items ++ (listing_names l.listings ++ us)) → Ascend (vertex_names l.self.all.items ++ (listing_names (drop l.listing-index l.listings) ++ us));
  merged : (all : List Text) (told : Told) → StandAt all l.initial.self.start (texts_in (listed_of l.listings)) → IsMerged all told l.initial.self → IsMerged all (told ++ told_of (take l.listing-index l.listings)) l.self;
  keys : l.self.keys ≡ l.initial.self.keys;
  start : l.self.start ≡ l.initial.self.start + length (texts_in (listed_of (take l.listing-index l.listings)));
}
