use Rattle.std.proofs.Common.{refl, rules}
use Rattle.cargo_toml_manifest.proofs.Meeting.{refused_again}
use Rattle.cargo_toml_resolver.proofs.Lent.{answered_with, is_answered, wrapped_with, resolved_for}
use Rattle.cargo_toml_resolver.proofs.complete_and_parse.complete_and_parse_into.Goals as goal

pub returns-in-Err : goal.returns-in-Err
returns-in-Err g c = (
  (refl, λ _. tt, c.in-Err.ensures.unchanged),
  record {
    left = tt;
    answered = refl;
    completed = tt;
    memory = tt;
    resolved = record { completed = refused_again _ _ _ _ c.in-Err.ensures.outcome; features = tt };
    wrapped = c.in-Err.ensures.wrapped;
  },
)

pub returns : goal.returns
returns g c = search (rules, is_answered, answered_with, resolved_for, wrapped_with)
