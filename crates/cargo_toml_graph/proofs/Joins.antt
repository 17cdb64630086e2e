-- The join of two joins.
use Rattle.std.proofs.Common.{◌≡◌, ◌⊎◌, ◌↔◌, Option, Some, None, inl, inr, rules}
use Rattle.std.proofs.lemmas.Bool.{false≢true, or_cases, or_left, or_right, and_cases, and_left, and_right}
use Rattle.cargo_toml_graph.specs.Action.{Action, join_option, IsJoin}

module _ {P Q : Action → Type 0} (same : (a : Action) → P a ↔ Q a) where
  exists_alike : (F : Action → Type 0) → ((a : Action) × P a × F a) ↔ ((a : Action) × Q a × F a)
  exists_alike F = (λ e. (e.0, (same e.0).0 e.1, e.2), λ e. (e.0, (same e.0).1 e.1, e.2))

  pub join_alike : (o : Option Action) → IsJoin P o → IsJoin Q o
  join_alike v0 v1 = search (rules, false≢true, exists_alike)

module _ {P Q R : Action → Type 0} (halves : (a : Action) → R a ↔ (P a ⊎ Q a)) where
  exists_halves : (F : Action → Type 0) → ((a : Action) × R a × F a) → ((a : Action) × P a × F a) ⊎ ((a : Action) × Q a × F a)
  exists_halves F e = elim ((halves e.0).0 e.1) [ inl p ↦ inl (e.0, p, e.2) | inr q ↦ inr (e.0, q, e.2) ]

  exists_first : (F : Action → Type 0) → ((a : Action) × P a × F a) → ((a : Action) × R a × F a)
  exists_first F e = (e.0, (halves e.0).1 (inl e.1), e.2)

  exists_second : (F : Action → Type 0) → ((a : Action) × Q a × F a) → ((a : Action) × R a × F a)
  exists_second F e = (e.0, (halves e.0).1 (inr e.1), e.2)

  pub join_halves : (o o' : Option Action) → IsJoin P o → IsJoin Q o' → IsJoin R (join_option o o')
  join_halves None o' h k = join_alike (λ a. (λ q. (halves a).1 (inr q), λ r. elim ((halves a).0 r) [ inl p ↦ absurd (false≢true (h.there.1 (a, p))) | inr q ↦ q ])) o' k
  join_halves (Some j) None h k = join_alike (λ a. (λ p. (halves a).1 (inl p), λ r. elim ((halves a).0 r) [ inl p ↦ p | inr q ↦ absurd (false≢true (k.there.1 (a, q))) ])) (Some j) h
  join_halves (Some i) (Some j) h k = search (rules, join_alike, false≢true, and_cases, exists_first, exists_second, exists_halves, and_left, and_right, or_cases, or_left, or_right)

-- one action is its own join
pub join_one : (o : Option Action) → IsJoin (λ a. o ≡ Some a) o
join_one v0 = search (rules, false≢true)
