use Rattle.cargo_toml_tools.proofs.Cited.{◌≡◌, entries_meaning, entry_of, first_of, left_entry, map, option_copied}
use Rattle.cargo_toml_tools.proofs.left.left_entry.Given as goal

abbrev pub invariant-loop-key : goal.invariant-loop-key
invariant-loop-key l =
    first_of (left_entry (option_copied l.target) l.table) (map entry_of l.key-iterator)
    ≡ first_of (left_entry (option_copied l.fn.target) l.fn.table) (entries_meaning l.entries)
