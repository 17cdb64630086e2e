use Rattle.std.proofs.Common.{Bool, inl, string_bytes, sym, subst, ◌≡◌}
use Rattle.std.proofs.lemmas.Result.{IfOk-weaker, err_from_is_err_and}
use Rattle.std.specs.BTreeSet.{contains_text}
use Rattle.cargo_toml.specs.{Action.Text, Error.Memory}
use Rattle.cargo_toml_tools.specs.FromFiles.{IsManifestIn}
use Rattle.cargo_toml_answers.specs.Answered.{IsListed, Reads}
use Rattle.cargo_toml_answers.proofs.Reading.{read_err}
use Rattle.cargo_toml_answers.proofs.listing.listing_of.Goals as goal

pub returns-in_err-held-clause-refused : goal.returns-in_err-held-clause-refused
returns-in_err-held-clause-refused c =
    let p = err_from_is_err_and c.from_residual.result c.from_residual.ensures.1 in
    rw (p.1, p.2) (inl c.in_err-held.ensures.refused)

pub returns-clause-listed : goal.returns-clause-listed
returns-clause-listed c =
    let written : IsManifestIn c.args.text.now c.in_ok-held.held.manifest.value = c.in_ok-held.ensures.read in
    IfOk-weaker c.listed.result _
    (λ json. (keep : Text → Bool) → ((name : Text) → contains_text c.args.kept name ≡ keep name) → Reads c.args.text.now (λ m. IsListed c.args.max_items keep m (string_bytes json)))
    (λ json is keep same. record { manifest = c.deref.result.now; written = subst (IsManifestIn c.args.text.now) (sym c.deref.ensures) written; exact = is keep same })
    c.listed.ensures.listed

pub returns-clause-refused : goal.returns-clause-refused
returns-clause-refused c = read_err c.args.text.now c.in_ok-held.held.manifest.value _ c.in_ok-held.ensures.read c.deref.ensures _
    (λ m e. e ≡ Memory) c.listed.ensures.refused
