use Rattle.std.proofs.Common.{codes}
use Rattle.serde_json.specs.Data.{member, no_members, number, object, string, unsigned}
use Rattle.cargo_toml_answers.proofs.Adding.{one, then}
use Rattle.cargo_toml_answers.proofs.linting.put_line.Goals as goal

pub returns : goal.returns
returns c =
    let line = c.args.line.now in
    let row = member (codes "code") (string line.0.1.now) (member (codes "column") (number (unsigned line.1.1)) (member (codes "feature") (string c.as_str.result.now)
    (member (codes "level") (string line.0.0.now) (member (codes "line") (number (unsigned line.1.0)) (member (codes "text") (string c.as_str-2.result.now)
    (member (codes "words") (string line.0.4.now) no_members)))))) in (
      object row,
      then (one c.in_ok-begin_object.ensures) (then c.in_ok-put_member.ensures (then c.in_ok-put_member-2.ensures
          (then c.in_ok-put_member-3.ensures (then c.in_ok-put_member-4.ensures (then c.in_ok-put_member-5.ensures (then c.in_ok-put_member-6.ensures
          (then c.in_ok-put_member-7.ensures (one c.in_ok-end_object.ensures)))))))),
    )
