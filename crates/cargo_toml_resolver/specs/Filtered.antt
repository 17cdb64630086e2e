-- What a resolver was made with.
use Rattle.std.specs.{Prelude.ℕ, Prelude.Option, Borrow.Bor}
use Rattle.cargo_toml_resolver.specs.declared.resolving.Resolver.{Resolver}

module _ {F S : Type 0} (r : Resolver F S) where
  -- the filter, if any
  abbrev pub filter_of : Option (Bor F)
  filter_of = r.should_keep_hidden_feature

  -- the state of hashed maps
  abbrev pub state_of : S
  state_of = r.state

  -- how many names of the table of features count, how many actions of a feature, and how many keys
  -- of a table of dependencies
  abbrev pub limit_of : ℕ
  limit_of = r.max_items
