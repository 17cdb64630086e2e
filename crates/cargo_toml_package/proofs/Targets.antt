-- What targets become, as far as it is made.
use Rattle.cargo_toml_package.proofs.Cited.{Entries, Err, Error, Fault, List, Memory, NewTarget, Ok, Option, TargetMeaning, [], fault_of, inherited_target, inherited_targets, inl, inr, refl, replaced_target, replaced_targets, ℕ, ◌++◌, ◌∷◌, ◌≡◌, ◌⊎◌}

-- the targets are those of which this was made, and the rest
abbrev pub IsMade : Option Entries → List ℕ → List (List ℕ × TargetMeaning) → List NewTarget → List (List ℕ × TargetMeaning) → Type 0
IsMade templates base ts [] rest = ts ≡ rest
IsMade templates base [] (new ∷ made) rest = ⊥
IsMade templates base (t ∷ ts) (new ∷ made) rest = (inherited_target templates base t.1 ≡ Ok (replaced_target t.1 new)) × IsMade templates base ts made rest

pub made_push : (templates : Option Entries) (base : List ℕ) (ts rest : List (List ℕ × TargetMeaning)) (made : List NewTarget) (new : NewTarget) (key : List ℕ) (t : TargetMeaning) →
    IsMade templates base ts made ((key, t) ∷ rest) → inherited_target templates base t ≡ Ok (replaced_target t new) → IsMade templates base ts (made ++ new ∷ []) rest
made_push templates base [] rest [] new key t h is = absurd cc
made_push templates base (u ∷ ts) rest [] new key t h is = let here : u ≡ (key, t) = cc in let others : ts ≡ rest = cc in (rw here is, others)
made_push templates base [] rest (m ∷ made) new key t h is = absurd h
made_push templates base (u ∷ ts) rest (m ∷ made) new key t h is = (h.0, made_push templates base ts rest made new key t h.1 is)

pub made_all : (templates : Option Entries) (base : List ℕ) (ts : List (List ℕ × TargetMeaning)) (made : List NewTarget) →
    IsMade templates base ts made [] → inherited_targets templates base ts ≡ Ok (replaced_targets ts made)
made_all templates base [] [] h = refl
made_all templates base (t ∷ ts) [] h = absurd cc
made_all templates base [] (m ∷ made) h = absurd h
made_all templates base (t ∷ ts) (m ∷ made) h = rw (h.0, made_all templates base ts made h.1) refl

made_until : (templates : Option Entries) (base : List ℕ) (ts rest : List (List ℕ × TargetMeaning)) (made : List NewTarget) (key : List ℕ) (t : TargetMeaning) (e : Fault) →
    IsMade templates base ts made ((key, t) ∷ rest) → inherited_target templates base t ≡ Err e → inherited_targets templates base ts ≡ Err e
made_until templates base [] rest [] key t e h is = absurd cc
made_until templates base (u ∷ ts) rest [] key t e h is = let here : u ≡ (key, t) = cc in rw (here, is) refl
made_until templates base [] rest (m ∷ made) key t e h is = absurd h
made_until templates base (u ∷ ts) rest (m ∷ made) key t e h is = rw (h.0, made_until templates base ts rest made key t e h.1 is) refl

pub gives_until : (templates : Option Entries) (base : List ℕ) (ts rest : List (List ℕ × TargetMeaning)) (made : List NewTarget) (key : List ℕ) (t : TargetMeaning) (e : Error) →
    IsMade templates base ts made ((key, t) ∷ rest) → (e ≡ Memory) ⊎ (inherited_target templates base t ≡ Err (fault_of e)) →
    (e ≡ Memory) ⊎ (inherited_targets templates base ts ≡ Err (fault_of e))
gives_until templates base ts rest made key t e h (inl memory) = inl memory
gives_until templates base ts rest made key t e h (inr is) = inr (made_until templates base ts rest made key t (fault_of e) h is)
