-- Names of files and folders, and what they say.
use Rattle.std.specs.Prelude.{ℕ, Bool, List, [], ◌∷◌, ◌++◌, ◌-◌, length, take}
use Rattle.std.specs.Prelude.{zero, suc, codes, nat_eq, not, map, if◌then◌else◌}
use Rattle.std.specs.{List.ends_with, List.list_any, Ordering.nat_cmp, Ordering.match_ordering}
use Rattle.std.specs.{Cmp.Lexicographic.slice_cmp, Str.bytes_eq}

-- the name of a file or folder, or its path: its bytes
abbrev pub Name : Type 0
Name = List ℕ

-- the text is among these
abbrev pub has_text : List Name → Name → Bool
has_text texts text = list_any (bytes_eq text) texts

-- the path of a name in a folder
abbrev pub in_folder : Name → Name → Name
in_folder folder name = folder ++ (codes "/" ++ name)

-- the name ends with `.rs`
abbrev pub is_source : Name → Bool
is_source name = ends_with nat_eq name (codes ".rs")

-- what is no source may be a folder
abbrev pub may_be_folder : Name → Bool
may_be_folder name = not (is_source name)

-- the name without its last three bytes
abbrev pub without_ending : Name → Name
without_ending name = take (length name - 3) name

-- the name with `.rs` taken from its end as often as it stands there, but at most n times
abbrev pub stripped : ℕ → Name → Name
stripped zero name = name
stripped (suc n) name = if is_source name then stripped n (without_ending name) else name

-- the name with every `.rs` at its end taken away
abbrev pub stem : Name → Name
stem name = stripped (length name) name

-- the name with n more `.rs` at its end
abbrev pub with_endings : ℕ → Name → Name
with_endings zero name = name
with_endings (suc n) name = with_endings n name ++ codes ".rs"

-- a text put among texts in byte order, each of which stands there once
abbrev pub put_in : Name → List Name → List Name
put_in text [] = text ∷ []
put_in text (t ∷ ts) =
    match_ordering (slice_cmp nat_cmp text t) (text ∷ t ∷ ts) (t ∷ ts) (t ∷ put_in text ts)

-- texts in byte order, each once
abbrev pub ordered : List Name → List Name
ordered [] = []
ordered (t ∷ ts) = put_in t (ordered ts)

-- each `-` as `_`
abbrev pub underscored : Name → Name
underscored name = map (λ b. if nat_eq b 45 then 95 else b) name
