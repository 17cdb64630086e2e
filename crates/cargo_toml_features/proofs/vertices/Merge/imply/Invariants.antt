use Rattle.cargo_toml_features.proofs.Cited.{Ascend, IfSome, IsMerged, IsMergedInOrder, IsSameMerge, List, StandAt, Text, Told, [], length, vertex_names, ◌++◌, ◌-◌, ◌∷◌}
use Rattle.cargo_toml_features.proofs.vertices.Merge.imply.Given as goal

abbrev pub invariant-loop-self : goal.invariant-loop-self
invariant-loop-self l = record {
  in_order : IsMergedInOrder l.self;
  below : IfSome l.bound (λ b. Ascend (vertex_names l.self.all.items ++ b.now ∷ []));
  merged : (all : List Text) (told : Told) → StandAt all l.initial.self.start [] → IsMerged all told l.initial.self → IsMerged all told l.self;
  rest : IsSameMerge l.initial.self l.self;
}

abbrev pub decreases-loop-self : goal.decreases-loop-self
decreases-loop-self l = length l.self.keys.now - l.self.next
