use Rattle.std.proofs.Common.{◌≡◌, length}
use denote.Text.{Utf8}
use denote.Shadow.{shadow}
use Rattle.toml.specs.Parse.{skip_bom}
use Rattle.cargo_toml_depth.specs.Nesting.{beginning, gets_too_deep}
use Rattle.cargo_toml_depth.specs.Places.{place_of}
use Rattle.cargo_toml_depth.proofs.is_too_deep.Given as goal

abbrev pub invariant-tokens : goal.invariant-tokens
invariant-tokens l =
    shadow (Utf8 l.rest) × (gets_too_deep (length l.fn.text) beginning (skip_bom l.fn.text)
    ≡ gets_too_deep l.left (place_of l.place) l.rest)

abbrev pub decreases-tokens : goal.decreases-tokens
decreases-tokens l = l.left
