use Rattle.cargo_toml_tools.proofs.Cited.{◌≡◌, drop, finding_refusal, first_refusal}
use Rattle.cargo_toml_tools.proofs.index.refusals.features_refusal.Given as goal

abbrev pub invariant-loop-finding : goal.invariant-loop-finding
invariant-loop-finding l =
    first_refusal finding_refusal (drop l.finding-index l.findings) ≡ first_refusal finding_refusal l.findings
