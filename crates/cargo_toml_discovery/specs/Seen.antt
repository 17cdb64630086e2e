-- What is seen of a tree of folders: a value, one of some faults, or nothing where an open
-- path is asked for.
use Rattle.std.specs.Prelude.{◌≡◌, Bool, true, false, List, [], ◌∷◌, ◌++◌, ◌⊎◌, if◌then◌else◌}
use Rattle.std.specs.declared.io.ErrorKind.{ErrorKind, TheVariants.NotFound}
use Rattle.cargo_toml_parts.specs.FaultValues.{Fault, fault_of, io}
use Rattle.cargo_toml_parts.specs.declared.error.Error.{Error, Memory}
use Rattle.cargo_toml_discovery.specs.Names.{Name, ordered}
use Rattle.cargo_toml_discovery.specs.Told.{Told, names, absent, denied, open_path}

-- what is seen in folders: a value, or the faults that stand in place of names, or nothing sure
pub data Seen (A : Type 0) : Type 0 where
  seen : A → Seen A
  faulty : List Fault → Seen A
  unclear : Seen A

-- what f makes of the value that is seen
abbrev pub seen_as : {A B : Type 0} → (A → B) → Seen A → Seen B
seen_as f (seen x) = seen (f x)
seen_as f (faulty fs) = faulty fs
seen_as f unclear = unclear

-- both, or the faults of both; unclear where one of the two is
abbrev pub pair : {A B : Type 0} → Seen A → Seen B → Seen (A × B)
pair (seen x) s = seen_as (λ y. (x, y)) s
pair (faulty fs) (seen y) = faulty fs
pair (faulty fs) (faulty gs) = faulty (fs ++ gs)
pair (faulty fs) unclear = unclear
pair unclear s = unclear

-- the second, which depends on the first
abbrev pub and_then : {A B : Type 0} → Seen A → (A → Seen B) → Seen B
and_then (seen x) f = f x
and_then (faulty fs) f = faulty fs
and_then unclear f = unclear

-- the kind is that of what isn't there
abbrev pub is_not_found : ErrorKind → Bool
is_not_found NotFound = true
is_not_found _ = false

-- the fault is that of a folder that isn't there
abbrev pub is_absence : Fault → Bool
is_absence (io kind) = is_not_found kind
is_absence _ = false

-- the names in a folder, in order; an absent folder counts as empty
abbrev pub names_at : Told → Seen (List Name)
names_at (names ts) = seen (ordered ts)
names_at absent = seen []
names_at (denied fault) = if is_absence fault then seen [] else faulty (fault ∷ [])
names_at open_path = unclear

-- the names in the folder of the package, which must be there
abbrev pub root_names : Told → Seen (List Name)
root_names (names ts) = seen (ordered ts)
root_names absent = faulty (io NotFound ∷ [])
root_names (denied fault) = faulty (fault ∷ [])
root_names open_path = unclear

-- the fault is one of these
abbrev pub IsOneOf : Fault → List Fault → Type 0
IsOneOf f [] = ⊥
IsOneOf f (g ∷ gs) = (f ≡ g) ⊎ IsOneOf f gs

-- the fault may be reported
abbrev pub MayTell : {A : Type 0} → Seen A → Fault → Type 0
MayTell (seen x) f = ⊥
MayTell (faulty fs) f = IsOneOf f fs
MayTell unclear f = Unit {0}

-- the refusal: `Memory`, or a fault that may be reported
abbrev pub Tells : {A : Type 0} → Seen A → Error → Type 0
Tells s e = (e ≡ Memory) ⊎ MayTell s (fault_of e)
