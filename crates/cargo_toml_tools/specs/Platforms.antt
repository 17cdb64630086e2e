-- What Cargo takes as the name of a target that has tables of dependencies: that of a platform, or
-- a `cfg` of an expression.
use Rattle.std.specs.Prelude.{ℕ, zero, suc, ◌-◌, ◌&&◌, ◌||◌, ◌==◌, Bool, false, true, List, []}
use Rattle.std.specs.Prelude.{◌∷◌, Option, Some, None, bytes_eq, codes, drop, if◌then◌else◌}
use Rattle.std.specs.Prelude.{length, nat_eq, not, option_and_then, option_map}
use Rattle.std.specs.Prelude.{take}
use Rattle.std.specs.Char.{is_ascii_alphabetic, is_ascii_alphanumeric, is_ascii_digit}
use Rattle.std.specs.List.{ends_with, list_all, prefix_len, starts_with}
use Rattle.std.specs.Option.{option_map_or, option_or}
use Rattle.cargo_toml.specs.{Action.Text}
use Rattle.cargo_toml_tools.specs.declared.index.platform.Word.{Word}
use Rattle.cargo_toml_tools.specs.declared.index.platform.Word.TheVariants.{Many, Name, Not}
use Rattle.cargo_toml_tools.specs.declared.index.platform.Run.{Run}
use Rattle.cargo_toml_tools.specs.declared.index.platform.Run.TheVariants as run

-- ---- words and signs

-- a letter or `_`
abbrev pub starts_word : ℕ → Bool
starts_word b = is_ascii_alphabetic b || b == 95

abbrev pub is_in : Run → ℕ → Bool
is_in run.Spaces b = b == 32
is_in run.Word b = starts_word b || is_ascii_digit b
is_in run.Quoted b = not (b == 34)

abbrev pub past_run : Run → Text → Text
past_run r text = drop (prefix_len (is_in r) text) text

-- what is behind a byte, which comes first
abbrev pub behind : ℕ → Text → Option Text
behind byte [] = None
behind byte (b ∷ bs) = if b == byte then Some bs else None

-- the same of a sign, which may have spaces before it
abbrev pub past_sign : ℕ → Text → Option Text
past_sign sign text = behind sign (past_run run.Spaces text)

-- the word that comes first, and the rest
abbrev pub split_word : Text → Option (Text × Text)
split_word [] = None
split_word (b ∷ bs) =
    let n = prefix_len (is_in run.Word) (b ∷ bs) in
    if starts_word b then Some (take n (b ∷ bs), drop n (b ∷ bs)) else None

abbrev pub word_kind : Text → Word
word_kind word =
    if bytes_eq word (codes "not") then Not
    else if bytes_eq word (codes "all") || bytes_eq word (codes "any") then Many else Name

abbrev pub raw_at : Text → Option (Word × Text)
raw_at text = option_map (λ w. (Name, w.1)) (split_word text)

-- `r#` makes a name of each word
abbrev pub kind_at : Text × Text → Option (Word × Text)
kind_at w = option_map_or raw_at
    (if bytes_eq w.0 (codes "r") then behind 35 w.1 else None) (Some (word_kind w.0, w.1))

abbrev pub word_at : Text → Option (Word × Text)
word_at text = option_and_then kind_at (split_word text)

-- ---- expressions

-- behind a name may stand a value: `= "value"`
abbrev pub past_quoted : Text → Option Text
past_quoted text =
    option_and_then (λ quoted. behind 34 (past_run run.Quoted quoted)) (past_sign 34 text)

abbrev pub past_value : Text → Option Text
past_value text = option_map_or past_quoted (past_sign 61 text) (Some text)

-- what is behind expressions, at most so many, with commas between and maybe one at the end, and a
-- `)`. `one` tells what is behind one
abbrev pub past_list : (Text → Option Text) → ℕ → Text → Option Text
past_list one zero text = None
past_list one (suc n) text =
    option_or (past_sign 41 text)
    (option_and_then (λ rest. option_or (past_sign 41 rest)
    (option_and_then (past_list one n) (past_sign 44 rest))) (one text))

-- `name`, `not(one)`, `all(one, ..)`, `any(one, ..)`
abbrev pub past_word : (Text → Option Text) → Word × Text → Option Text
past_word one (Name, rest) = past_value rest
past_word one (Not, rest) =
    option_and_then (past_sign 41) (option_and_then one (past_sign 40 rest))
past_word one (Many, rest) =
    option_and_then (λ list. past_list one (length list) list) (past_sign 40 rest)

-- what is behind an expression, which comes first, and is nested at most so deep
unfoldable pub past_expression : ℕ → Text → Option Text
past_expression zero text = None
past_expression (suc n) text =
    option_and_then (past_word (past_expression n)) (word_at (past_run run.Spaces text))

-- a whole text is an expression, nested at most 64 deep
unfoldable pub is_cfg : Text → Bool
is_cfg text =
    option_map_or (λ rest. length (past_run run.Spaces rest) == 0) (past_expression 64 text) false

-- ---- names of targets

-- a letter or digit of ASCII, `_`, `-` or `.`. Cargo takes letters and digits beyond ASCII, too
abbrev pub is_in_platform : ℕ → Bool
is_in_platform b = is_ascii_alphanumeric b || b == 95 || b == 45 || b == 46

abbrev pub is_platform : Text → Bool
is_platform name = list_all is_in_platform name

-- what is between `cfg(` and a last `)`
abbrev pub behind_start : Text → Text → Option Text
behind_start start text =
    if starts_with nat_eq text start then Some (drop (length start) text) else None

abbrev pub before_end : Text → Text → Option Text
before_end end text =
    if ends_with nat_eq text end then Some (take (length text - length end) text) else None

abbrev pub cfg_in : Text → Option Text
cfg_in name = option_and_then (before_end (codes ")")) (behind_start (codes "cfg(") name)

unfoldable pub is_target : Text → Bool
is_target name = option_map_or is_cfg (cfg_in name) (is_platform name)
