-- Values under names that stand in byte order.
use Rattle.std.specs.Prelude.{◌≡◌, if◌then◌else◌, List, [], ◌∷◌, length, map, Option, None, Some}
use Rattle.std.specs.Prelude.{IfSome, bytes_eq}
use Rattle.cargo_toml_features.specs.declared.features.FeatureDependency.{FeatureDependency}
use Rattle.cargo_toml_features.specs.{FirstTarget.HasTarget, declared.slots.Slots.Slots}
use Rattle.cargo_toml_graph.specs.Action.{Text}

module _ {V : Type 0} where
  -- of names and as many values, the value of the first place of a name
  abbrev pub held_among : List Text → List (Option V) → Text → Option V
  held_among [] vs f = None
  held_among (n ∷ ns) [] f = None
  held_among (n ∷ ns) (v ∷ vs) f = if bytes_eq f n then v else held_among ns vs f

  abbrev pub names_in : Slots V → List Text
  names_in s = map (λ n. n.now) s.names.items

  -- the value under a name; none where the name isn't there or has no value
  abbrev pub held_in : Slots V → Text → Option V
  held_in s f = held_among (names_in s) s.values.items f

  -- values may have changed, and names not
  pub record HaveSameNames (old new : Slots V) : Type 0 where
    pub names : new.names.items ≡ old.names.items
    pub count : length new.values.items ≡ length old.values.items

  -- one value changed into the other, or none stood there and none does
  abbrev pub Relates : (V → V → Type 0) → Option V → Option V → Type 0
  Relates Changes None None = Unit {0}
  Relates Changes None (Some b) = ⊥
  Relates Changes (Some a) None = ⊥
  Relates Changes (Some a) (Some b) = Changes a b

-- each dependency that stands under a name has a target
abbrev pub HeldHaveTargets : Slots FeatureDependency → Type 0
HeldHaveTargets s = (k : Text) → IfSome (held_in s k) HasTarget
