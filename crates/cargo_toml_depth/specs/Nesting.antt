-- How deep a TOML text nests.
use Rattle.std.specs.Prelude.{ℕ, zero, suc, ◌+◌, ◌-◌, min, max, Bool, true, false, not, ◌&&◌, ◌||◌}
use Rattle.std.specs.Prelude.{◌==◌, nat_le, if◌then◌else◌, List, [], ◌∷◌, ◌++◌, length, take, drop}
use Rattle.std.specs.Prelude.{slice_get, slice_index, Option, Some, None, option_map, unwrap_or}
use Rattle.std.specs.Option.{option_map_or}
use Rattle.toml_parser.specs.Lexical as lexical
use Rattle.toml_parser.specs.Strings as strings
use Rattle.toml.specs.Parse.{skip_bom}
use Rattle.cargo_toml_depth.specs.declared.TheConstants.{MAX_DEPTH}

-- the first byte, or 0
abbrev pub first : List ℕ → ℕ
first = lexical.first

-- the byte of `[`
abbrev pub left_bracket : ℕ
left_bracket = lexical.left_bracket

-- a quote or an apostrophe comes first
abbrev pub starts_string : List ℕ → Bool
starts_string = strings.starts_string

-- what is known at a place of a text, of what stands before it
pub record Place : Type 0 where
  -- the depth of the table of the last header
  pub section : ℕ
  -- the most parts that the key of a header of an array of tables had
  pub array_parts : ℕ
  -- the depth within each bracket that is open, the innermost last
  pub brackets : List ℕ
  -- the points since the last bracket, comma or line: those of a key, where one stands
  pub points : ℕ
  -- whether the line had a `=`
  pub is_behind_equals : Bool

-- the beginning of a text
abbrev pub beginning : Place
beginning = record {
  section = 0;
  array_parts = 0;
  brackets = [];
  points = 0;
  is_behind_equals = false;
}

-- the place, unless this is too deep
abbrev pub unless_deep : ℕ → Place → Option Place
unless_deep depth p = if nat_le depth MAX_DEPTH then Some p else None

-- the depth of what stands here
abbrev pub depth : Place → ℕ
depth p = unwrap_or (slice_get p.brackets (length p.brackets - 1)) p.section

-- behind the end of a line
abbrev pub end_line : Place → Place
end_line p = record p { points = 0; is_behind_equals = false }

-- within a bracket, a step deeper than the last part of the key before it
abbrev pub open_bracket : Place → Option Place
open_bracket p =
    let within = depth p + p.points + 1 in
    unless_deep within (record p { brackets = p.brackets ++ within ∷ []; points = 0 })

-- behind the end of the innermost bracket
abbrev pub close : Place → Place
close p = record p { brackets = take (length p.brackets - 1) p.brackets; points = 0 }

-- a byte outside of strings, comments and headers
abbrev pub pass : ℕ → Place → Option Place
pass c p =
    if c == lexical.left_bracket || c == lexical.left_brace then open_bracket p
    else if c == lexical.right_bracket || c == lexical.right_brace then Some (close p)
    else if c == lexical.comma then Some (record p { points = 0 })
    else if c == lexical.line_feed then Some (end_line p)
    else if c == lexical.dot then unless_deep (p.points + 1) (record p { points = p.points + 1 })
    else if c == lexical.equals
    then unless_deep (depth p + p.points) (record p { is_behind_equals = true })
    else Some p

-- the byte begins a header here
abbrev pub is_at_header : Place → ℕ → Bool
is_at_header p c = (c == left_bracket && length p.brackets == 0) && not p.is_behind_equals

-- Within the table of a header of so many parts: each is a step, and so is the element of an array
-- of tables that one may stand for. No key of more parts than `array_parts` stands for one.
abbrev pub enter : ℕ → Bool → Place → Option Place
enter parts is_of_array p =
    let array_parts = if is_of_array then max p.array_parts parts else p.array_parts in
    let section = parts + min parts array_parts in
    unless_deep section (record p { section = section; array_parts = array_parts })

-- the parts of a header's key, whether it is one of an array of tables, and what follows the key
abbrev pub header : List ℕ → Option (ℕ × Bool × List ℕ)
header text =
    let is_of_array = slice_index text 1 == left_bracket in
    let key = drop (if is_of_array then 2 else 1) text in
    option_map (λ k. (length k.0.0 + 1, is_of_array, k.1)) (strings.key (lexical.skip_ws key))

-- what follows a string
abbrev pub after_string : List ℕ → Option (List ℕ)
after_string text = option_map (λ s. s.1) (strings.quoted text)

-- outside of strings and comments no TOML goes on with this byte: 0 is the end of a text, and the
-- others are of characters past ASCII
abbrev pub is_beyond : ℕ → Bool
is_beyond c = c == 0 || nat_le 128 c

-- whether what is too deep comes within n tokens from this place on
unfoldable pub gets_too_deep : ℕ → Place → List ℕ → Bool
gets_too_deep zero p text = false
gets_too_deep (suc n) p text =
    if starts_string text then option_map_or (gets_too_deep n p) (after_string text) false
    else if first text == lexical.hash then gets_too_deep n (end_line p) (lexical.skip_blank text)
    else if is_at_header p (first text) then option_map_or
    (λ h. option_map_or (λ q. gets_too_deep n q h.2) (enter h.0 h.1 p) true) (header text) false
    else if is_beyond (first text) then false
    else option_map_or (λ q. gets_too_deep n q (drop 1 text)) (pass (first text) p) true

-- the text nests deeper than 128
abbrev pub is_too_deep : List ℕ → Bool
is_too_deep text = gets_too_deep (length text) beginning (skip_bom text)
