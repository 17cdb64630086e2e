-- Which names, and which texts, Cargo takes.
use Rattle.std.specs.Prelude.{Bool, false, true, ◌==◌, ◌&&◌, not, codes, slice_get, if◌then◌else◌}
use Rattle.std.specs.List.{after_first, before_first, ends_with, list_all, list_any, starts_with}
use Rattle.std.specs.Prelude.{nat_eq, ℕ, ◌||◌}
use Rattle.std.specs.{Char.is_ascii_digit, Option.option_map_or, Str.chars}
use Rattle.cargo_toml.specs.Action.{Text, is_slash}
use Rattle.unicode_ident.specs.Ident.{is_xid_continue, is_xid_start}

-- what may begin a name: what begins an identifier by Unicode, `_`, and a feature's `0` to `9`
abbrev pub may_start : Bool → ℕ → Bool
may_start of_feature c = is_xid_start c || (c == 95) || (of_feature && is_ascii_digit c)

-- what may stand in one: what goes on in an identifier by Unicode, `-`, and in a feature's `+`, `.`
abbrev pub may_follow : Bool → ℕ → Bool
may_follow of_feature c =
    is_xid_continue c || (c == 45) || (of_feature && ((c == 43) || (c == 46)))

-- the name of a feature, or else of a package: its first character may begin it, each stand in it
abbrev pub may_name : Bool → Text → Bool
may_name of_feature f =
    option_map_or (may_start of_feature) (slice_get (chars f) 0) false
    && list_all (may_follow of_feature) (chars f)

-- a text with a slash has no `dep:`, and behind the first slash a feature's name; one without a
-- slash doesn't end in `?`
abbrev pub is_bad_text : Text → Bool
is_bad_text text =
    if list_any is_slash text then
    starts_with nat_eq text (codes "dep:") || not (may_name true (after_first is_slash text))
    else ends_with nat_eq text (codes "?")

-- what no target may require: `dep:d`, or `d?/f`
abbrev pub is_never_required : Text → Bool
is_never_required text =
    if list_any is_slash text then ends_with nat_eq (before_first is_slash text) (codes "?")
    else starts_with nat_eq text (codes "dep:")
