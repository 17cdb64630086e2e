-- What stands at the keys of a table, beside the words that all types share.
use Prim.Native.String.{String as Words}
use Rattle.std.specs.Prelude.{ℕ, List, [], Option}
use Rattle.toml.specs.Data.{Data, Members, as_str}
use Rattle.cargo_toml_parts.specs.declared.inheritable.Inheritable.{Inheritable}
use Rattle.cargo_toml_parts.specs.declared.inheritable.Inheritable.TheVariants.{Set}
use Rattle.cargo_toml_parts.specs.Inherits.{inheritable_of}
use Rattle.cargo_toml_parts.specs.Reads.{list_of, optional_at, given_at}

-- a value that the workspace may give, and the one where its key is missing
abbrev pub inherited_at : {M : Type 0} → Words → M → (Data → Option M) → Members
    → Option (Inheritable M)
inherited_at key missing reads ms = given_at key (Set missing) (inheritable_of reads) ms

-- the text at a key, which may be inherited; missing: none
abbrev pub inherited_text_at : Words → Members → Option (Option (Inheritable (List ℕ)))
inherited_text_at key ms = optional_at key (inheritable_of as_str) ms

-- the list of texts at a key, which may be inherited; missing: empty
abbrev pub inherited_list_at : Words → Members → Option (Inheritable (List (List ℕ)))
inherited_list_at key ms = inherited_at key [] list_of ms
