-- A feature of a map whose features stand under their own keys is found under its key.
use Rattle.cargo_toml_features.proofs.Cited.{Bor, Feature, HashMap, IsHeldBy, IsKeyed, IsSome, IsUnique, List, Some, Text, [], ap, arith, bytes_eq, hash_map_get_place, inl, inr, is_some, length, on_texts_equal, slice_get, slice_index_or, suc, sym, value_at, values_of, zero, ℕ, ◌<◌, ◌∙◌, ◌∷◌, ◌≡◌}
use Rattle.cargo_toml_features.proofs.Pending.{key_of}
use Rattle.cargo_toml_features.proofs.features.Feature.held.Goals as goal

-- the value at an index stands there under some key
at_place : (es : List (Bor Text × Feature)) (i : ℕ) (v : Feature) → i < length (values_of es) → v ≡ slice_index_or (values_of es) i v → (k : Bor Text) × (slice_get es i ≡ Some (k, v))
at_place [] i v h e = absurd (omega arith)
at_place (x ∷ es) zero v h e = (x.0, ap (λ w. Some (x.0, w)) (sym e))
at_place (x ∷ es) (suc i) v h e = at_place es i v (omega arith) e

held_key : {S : Type 0} (m : HashMap (Bor Text) Feature S) → IsUnique (λ x y. bytes_eq x.now y.now) m → IsKeyed m → (v : Feature) → IsHeldBy m v → IsSome (value_at m v.key.now)
held_key m unique keyed v (inr there) = there
held_key m unique keyed v (inl among) =
    let place = at_place m.entries among.0 v among.1.0 among.1.1 in
    let here : value_at m place.0.now ≡ Some v = hash_map_get_place (on_texts_equal (λ (k : Bor Text). k.now)) m among.0 place.0 v unique place.1 in
    ap (λ k. is_some (value_at m k)) (key_of m keyed place.0.now v here) ∙ ap is_some here

pub index-requires : goal.index-requires
index-requires g c = held_key c.args.features.now c.len-count.ensures.unique c.requires.keyed c.args.self.now c.requires.start
