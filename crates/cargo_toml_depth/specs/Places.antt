-- How the code keeps a place.
use Rattle.cargo_toml_depth.specs.declared.place.Place as code
use Rattle.std.specs.Prelude.{ℕ, Bool, ◌||◌}
use Rattle.toml_parser.specs.Lexical.{is_bare, is_ws}
use Rattle.cargo_toml_depth.specs.Nesting.{Place}

abbrev pub place_of : code.Place → Place
place_of p = record {
  section = p.section;
  array_parts = p.array_parts;
  brackets = p.brackets.items;
  points = p.points;
  is_behind_equals = p.is_behind_equals;
}

-- a byte outside of strings and comments that changes nothing: one of a bare key or value, or a
-- blank
abbrev pub is_plain : ℕ → Bool
is_plain c = is_bare c || is_ws c
