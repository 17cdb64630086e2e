-- What is answered of what was made of a text, and why that is refused.
use Rattle.std.proofs.Common.{Err, Global, IfErr, IfOk, Ok, Result, String, string_bytes, subst, ◌≡◌}
use Rattle.cargo_toml.specs.{Action.Text, Error.Error}
use Rattle.cargo_toml.specs.Completing.{Meets, Outcome, gives, no_workspace, refuses, untold}
use Rattle.cargo_toml_answers.specs.Refused.{IsAnswered, IsRefusal, IsRefusalFor, TellsOf}
use Rattle.cargo_toml_answers.specs.declared.refusal.Refusal.{Refusal}
use Rattle.cargo_toml_answers.specs.declared.refusal.Refusal.TheVariants as refusal

-- a refusal for fewer causes, of which less is told
pub weaker : (bad worse : Type 0) (tells more : Text → Type 0) (r : Refusal) → (bad → worse) → ((json : Text) → tells json → more json) → IsRefusal bad tells r → IsRefusal worse more r
weaker bad worse tells more refusal.Memory b w h = tt
weaker bad worse tells more (refusal.Argument json) b w h = (b h.0, h.1)
weaker bad worse tells more (refusal.Text json) b w h = w (string_bytes json) h

-- the same of errors
pub refusal_weaker : (bad worse : Type 0) (why more : Error → Type 0) (r : Refusal) → (bad → worse) → ((e : Error) → why e → more e) → IsRefusalFor bad why r → IsRefusalFor worse more r
refusal_weaker bad worse why more r b w h = weaker bad worse (λ json. (e : Error) × (why e × TellsOf e json)) (λ json. (e : Error) × (more e × TellsOf e json)) r b (λ json told. (told.0, (w told.0 told.1.0, told.1.1))) h

-- the same of an argument, whatever the causes of others are
pub argument_weaker : (bad worse : Type 0) (why : Error → Type 0) (r : Refusal) → (bad → worse) → IsRefusal bad (λ _. ⊥) r → IsRefusalFor worse why r
argument_weaker bad worse why r b h = weaker bad worse (λ _. ⊥) (λ json. (e : Error) × (why e × TellsOf e json)) r b (λ json none. absurd none) h

pub answered_ok : (made : Result (String Global) Error) (r : Result (String Global) Refusal) (P : String Global → Type 0) → IsAnswered made r → IfOk made P → IfOk r P
answered_ok made (Ok json) P same made_so = subst (λ m. IfOk m P) same made_so
answered_ok made (Err x) P same made_so = tt

pub answered_err : (made : Result (String Global) Error) (r : Result (String Global) Refusal) (bad : Type 0) (why more : Error → Type 0) → ((e : Error) → why e → more e) → IsAnswered made r → IfErr made why → IfErr r (IsRefusalFor bad more)
answered_err made (Ok json) bad why more w same refused = tt
answered_err made (Err x) bad why more w same refused = refusal_weaker ⊥ bad (λ e. made ≡ Err e) more x (λ b. absurd b) (λ e is. w e (subst (λ m. IfErr m why) is refused)) same

-- a refusal meets an outcome, whatever a success is
pub meets_err : {T U A : Type 0} (f : T → A) (g : U → A) (o : Outcome A) (e : Error) → Meets f o (Err e) → Meets g o (Err e)
meets_err f g untold e h = tt
meets_err f g (gives x) e h = h
meets_err f g (refuses faults) e h = h
meets_err f g (no_workspace path) e h = h
