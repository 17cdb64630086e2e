use Rattle.cargo_toml_features.proofs.Cited.{Bor, IsStrictlySortedBy, IsStrictlySortedBy-filter, List, Text, bytes_eq, codes, nat_cmp, not, slice_cmp, subst, sym, without_default}
use Rattle.cargo_toml_features.proofs.features.Feature.non_default_enabled_by.Goals as goal

pub returns-clause-in_order : goal.returns-clause-in_order
returns-clause-in_order c =
    subst (λ (names : List (Bor Text)). IsStrictlySortedBy (λ x y. slice_cmp nat_cmp x.now y.now) (without_default names)) (sym c.iter.ensures.rest)
    (IsStrictlySortedBy-filter _ (λ k. not (bytes_eq k.now (codes "default"))) c.args.self.now.enabled_by.keys c.iter.ensures.ordered)
