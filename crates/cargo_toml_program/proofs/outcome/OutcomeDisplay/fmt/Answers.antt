use Rattle.cargo_toml_program.proofs.Cited.{codes, has_written_append, line, refl, ◌++◌}
use Rattle.cargo_toml_program.proofs.outcome.OutcomeDisplay.fmt.Goals as goal

pub returns-in_ok-fmt-in-Refused-clause-words : goal.returns-in_ok-fmt-in-Refused-clause-words
returns-in_ok-fmt-in-Refused-clause-words g c plain ok =
    let first = c.in_ok-write_str-in-Refused.ensures.writes plain refl in
    let told = c.in_ok-fmt-in-Refused.ensures.words first.plain refl in
    let last = c.write_str-in-Refused.ensures.writes told.1.1.plain ok in (
      line (codes "error: " ++ told.0),
      (
        rw c.in-Refused.is (told.0, (told.1.0, refl)),
        has_written_append _ _ _ _ _ _ (has_written_append _ _ _ _ _ _ first told.1.1) last,
      ),
    )
