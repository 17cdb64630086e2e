-- The dependency of a key.
use Rattle.cargo_toml_package.proofs.Cited.{BTreeMap, Bool, Dependency, DependencyMeaning, Global, List, Option, Some, String, [], bytes_eq, cond, dependency_meaning, entry_at, false, get_by, is_at, is_eq-slice_cmp, lookup, map, map_meaning, nat_cmp, option_map, refl, slice_cmp, string_bytes, true, ℕ, ◌∷◌, ◌≡◌}

choose : (b : Bool) (x : Dependency) (r : Option Dependency) (s : Option DependencyMeaning) → s ≡ option_map dependency_meaning r → cond b (Some (dependency_meaning x)) s ≡ option_map dependency_meaning (cond b (Some x) r)
choose true x r s e = refl
choose false x r s e = e

in_entries : (key : List ℕ) (es : List (String Global × Dependency)) → entry_at key (map (λ e. (string_bytes e.0, dependency_meaning e.1)) es) ≡ option_map dependency_meaning (lookup (is_at (λ k. slice_cmp nat_cmp key (string_bytes k))) es)
in_entries key [] = refl
in_entries key (e ∷ es) = rw (is_eq-slice_cmp key (string_bytes e.0)) (choose (bytes_eq key (string_bytes e.0)) e.1 _ _ (in_entries key es))

pub entry_at-map : (key : List ℕ) (m : BTreeMap (String Global) Dependency) → entry_at key (map_meaning dependency_meaning m) ≡ option_map dependency_meaning (get_by (λ k. slice_cmp nat_cmp key (string_bytes k)) m)
entry_at-map key m = in_entries key m.entries
