-- Entries that are gone through beside the table that they are of.
use Rattle.cargo_toml_package.proofs.Cited.{All, All-head, All-same, All-tail, AreEntriesOf, BTreeMap, Dependency, DependencyMeaning, Entries, Err, Error-F, Fault, Global, InheritedMeaning, InheritedUnknownValue, List, None, Ok, Result, Some, String, [], ap, dependency_meaning, detailed, entry_at, fault_of, fault_step, fold-roll-Error}
use Rattle.cargo_toml_package.proofs.Cited.{get_by, inherited, inherited_entries, inherited_entry, inherited_unknown_value, map_meaning, nat_cmp, refl, rolls-InheritedUnknownValue, rules, simple, slice_cmp, string_bytes, subst, sym, ℕ, ◌++◌, ◌∙◌, ◌∷◌, ◌≡◌}
use Rattle.cargo_toml_package.proofs.{Entries.entry_at-map, Inherited.behind, Inherited.behind-push, Inherited.needed}

-- a pair that a map has at its key
abbrev pub IsAt : BTreeMap (String Global) Dependency → String Global × Dependency → Type 0
IsAt m e = get_by (λ k. slice_cmp nat_cmp (string_bytes e.0) (string_bytes k)) m ≡ Some e.1

-- those of a map are
are_entries : (m : BTreeMap (String Global) Dependency) (es : List (String Global × Dependency)) → All (IsAt m) es →
    AreEntriesOf (map_meaning dependency_meaning m) es
are_entries m [] h = search rules
are_entries m (e ∷ es) h =
    let first : IsAt m e = All-head (IsAt m) e es h in
    (entry_at-map (string_bytes e.0) m ∙ rw first refl, are_entries m es (All-tail (IsAt m) e es h))

pub are_entries-all : (m : BTreeMap (String Global) Dependency) (es : List (String Global × Dependency)) → es ≡ m.entries →
    All (IsAt m) m.entries → AreEntriesOf (map_meaning dependency_meaning m) es
are_entries-all m es is h = are_entries m es (All-same (IsAt m) es m.entries is h)

-- where the list is, its first is, and so are those behind it
pub left_known : (entries : Entries) (e : String Global × Dependency) (some left : List (String Global × Dependency)) →
    some ≡ e ∷ left → AreEntriesOf entries some → AreEntriesOf entries left
left_known entries e some left is known = (subst (AreEntriesOf entries) is known).1

pub first_known : (entries : Entries) (key : List ℕ) (e : String Global × Dependency)
    (some left : List (String Global × Dependency)) → some ≡ e ∷ left → string_bytes e.0 ≡ key → AreEntriesOf entries some →
    entry_at key entries ≡ Some (dependency_meaning e.1)
first_known entries key e some left is same known = rw (← same) (subst (AreEntriesOf entries) is known).0

-- one more is made
pub push_made : (templates : Entries) (base key : List ℕ) (entry : InheritedMeaning) (left es : Entries)
    (made : List DependencyMeaning) (d : DependencyMeaning) (all : Result (List DependencyMeaning) Fault) →
    left ≡ (key, inherited entry) ∷ es →
    inherited_entry (Some templates) base key (inherited entry) ≡ Ok d →
    all ≡ behind made (needed (Some templates) base left) →
    all ≡ behind (made ++ d ∷ []) (needed (Some templates) base es)
push_made templates base key entry left es made d all is gives so_far =
    so_far ∙ rw (is, gives) (behind-push made d (needed (Some templates) base es))

-- one is refused
pub push_refused : (templates : Entries) (base key : List ℕ) (entry : InheritedMeaning) (left es : Entries)
    (made : List DependencyMeaning) (fault : Fault) (all : Result (List DependencyMeaning) Fault) →
    left ≡ (key, inherited entry) ∷ es →
    inherited_entry (Some templates) base key (inherited entry) ≡ Err fault →
    all ≡ behind made (needed (Some templates) base left) →
    all ≡ Err fault
push_refused templates base key entry left es made fault all is gives so_far = so_far ∙ rw (is, gives) refl

pub fault_of-inherited : fault_of InheritedUnknownValue ≡ inherited_unknown_value
fault_of-inherited = ap fault_of (sym rolls-InheritedUnknownValue) ∙ fold-roll-Error Fault fault_step Error-F.InheritedUnknownValue

-- without any, it is as with none
entry-without : (base key : List ℕ) (d : DependencyMeaning) → inherited_entry None base key d ≡ inherited_entry (Some []) base key d
entry-without base key (simple r) = refl
entry-without base key (inherited entry) = refl
entry-without base key (detailed d) = refl

pub without : (base : List ℕ) (es : Entries) → inherited_entries None base es ≡ inherited_entries (Some []) base es
without base [] = refl
without base (e ∷ es) = rw (entry-without base e.0 e.1, without base es) refl
