-- JSON that is written token by token.
use Rattle.std.specs.Prelude.{◌≡◌, ◌++◌, ◌∷◌, List, []}
use Rattle.json.specs.{Token.Token, Token.key, Tree.json_tokens, Written.Written}
use Rattle.serde_json.specs.{Data.Data, Written.outline}
use Rattle.cargo_toml.specs.Action.{Text}

-- the tokens of a value
abbrev pub tokens_of : Data → List Token
tokens_of d = json_tokens (outline d)

-- these tokens are written behind those that were there
pub record Adds (old new : Written) (ts : List Token) : Type 0 where
  pub before : new.before ≡ old.before
  pub tokens : new.tokens ≡ old.tokens ++ ts

-- the tokens of members
abbrev pub rows_tokens : List (Text × Data) → List Token
rows_tokens [] = []
rows_tokens (row ∷ rows) = key row.0 ∷ (tokens_of row.1 ++ rows_tokens rows)
