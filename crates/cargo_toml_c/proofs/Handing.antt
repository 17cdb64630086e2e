-- What is handed out of what came of a call, by its status.
use Rattle.std.proofs.Common.{Err, Global, IfErr, IfOk, List, Ok, OnOk, Result, String, ap, arith, drop, inl, inr, length, min, string_bytes, sym, take, ℕ, ◌++◌, ◌∙◌, ◌≡◌, ◌≢◌}
use Rattle.std.proofs.lemmas.Bool.{cases_lt}
use Rattle.std.proofs.lemmas.List.{drop_all, take_all}
use Rattle.cargo_toml.specs.Action.{Text}
use Rattle.cargo_toml_answers.specs.declared.refusal.Refusal.{Refusal}
use Rattle.cargo_toml_answers.specs.declared.refusal.Refusal.TheVariants as refusal
use Rattle.cargo_toml_c.specs.Handed.{HandsOut, HandsRefusal, came_status, came_text, filled, status_of}

refused_not_done : (r : Refusal) → ¬ (status_of r ≡ 0)
refused_not_done (refusal.Text json) h = cc
refused_not_done refusal.Memory h = cc
refused_not_done (refusal.Argument json) h = cc

pub on_done : (came : Result (String Global) Refusal) (status : ℕ) (Q : Type 0) → status ≡ came_status came → OnOk came Q → status ≡ 0 → Q
on_done (Ok json) status Q told holds done = holds
on_done (Err r) status Q told holds done = absurd (refused_not_done r (sym told ∙ done))

pub hands_out : (came : Result (String Global) Refusal) (old new : List ℕ) (needed status : ℕ) (P : Text → Type 0) → status ≡ came_status came
    → needed ≡ length (came_text came) → new ≡ filled (came_text came) old → IfOk came (λ json. P (string_bytes json)) → status ≡ 0 → HandsOut P old new needed
hands_out (Ok json) old new needed status P told whole buffer exact done = record { answer = string_bytes json; exact = exact; whole = whole; buffer = buffer }
hands_out (Err r) old new needed status P told whole buffer exact done = absurd (refused_not_done r (sym told ∙ done))

pub hands_refusal : (came : Result (String Global) Refusal) (old new : List ℕ) (needed status : ℕ) (P : Refusal → Type 0) → status ≡ came_status came
    → needed ≡ length (came_text came) → new ≡ filled (came_text came) old → IfErr came P → status ≢ 0 → HandsRefusal P old new needed status
hands_refusal (Ok json) old new needed status P told whole buffer exact refused = absurd (refused told)
hands_refusal (Err r) old new needed status P told whole buffer exact refused = record { refusal = r; exact = exact; told = told; whole = whole; buffer = buffer }

-- as much of an answer as fits
pub fits : (answer old : List ℕ) (count : ℕ) → count ≡ min (length answer) (length old) → take count answer ++ drop count old ≡ filled answer old
fits answer old count e = elim (cases_lt (length answer) (length old)) [
  | inl below ↦
      let is : count ≡ length answer = omega arith in
      ap (λ k. take k answer ++ drop k old) is
      ∙ ap (λ ts. ts ++ drop (length answer) old) (take_all (length answer) answer (omega arith) ∙ sym (take_all (length old) answer (omega arith)))
  | inr over ↦
      let is : count ≡ length old = omega arith in
      ap (λ k. take k answer ++ drop k old) is
      ∙ ap (λ ts. take (length old) answer ++ ts) (drop_all (length old) old (omega arith) ∙ sym (drop_all (length answer) old (omega arith)))
]
