use Rattle.std.proofs.Common.{inl, inr, string_bytes}
use Rattle.std.proofs.lemmas.Result.{IfErr-weaker, err_from_is_err_and}
use Rattle.std.specs.Option.{option_copied}
use Rattle.toml.specs.declared.value.Value.{Value}
use Rattle.cargo_toml.specs.{Action.Text, Manifest.Manifest}
use Rattle.cargo_toml_tools.specs.{FromFiles.IsManifestIn, Indexed.Wanted}
use Rattle.cargo_toml_tools.specs.declared.files.indexing.Fault.{Fault}
use Rattle.cargo_toml_tools.specs.declared.files.indexing.Fault.TheVariants as fault
use Rattle.cargo_toml_answers.specs.Answered.{IsIndexed, IsUnindexed, IsUntaken, wanted_with}
use Rattle.cargo_toml_answers.proofs.Reading.{read_ok}
use Rattle.cargo_toml_answers.proofs.indexing.line_of.Goals as goal

unindexed : (text : Text) (w : Wanted) (m : Manifest Value) → IsManifestIn text m → (f : Fault) → IsUntaken text w m f → IsUnindexed text w f
unindexed text w m written (fault.Manifest e) h = inr h
unindexed text w m written (fault.Index e) h = record { manifest = m; written = written; exact = h }

pub returns-in_err-held-clause-refused : goal.returns-in_err-held-clause-refused
returns-in_err-held-clause-refused c =
    let p = err_from_is_err_and c.from_residual.result c.from_residual.ensures.1 in
    rw (p.1, p.2) (inl c.in_err-held.ensures.refused)

pub returns-clause-indexed : goal.returns-clause-indexed
returns-clause-indexed c =
    let w = wanted_with (option_copied c.args.checksum) in
    read_ok c.args.text.now c.in_ok-held.held.manifest.value _ c.in_ok-held.ensures.read c.deref.ensures _
    (λ m json. IsIndexed c.args.text.now w m (string_bytes json)) c.entry_of.ensures.indexed

pub returns-clause-refused : goal.returns-clause-refused
returns-clause-refused c =
    let w = wanted_with (option_copied c.args.checksum) in
    IfErr-weaker c.entry_of.result _ (IsUnindexed c.args.text.now w)
    (unindexed c.args.text.now w c.deref.result.now (rw c.deref.ensures c.in_ok-held.ensures.read)) c.entry_of.ensures.refused
