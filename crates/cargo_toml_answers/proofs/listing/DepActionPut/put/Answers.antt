use Rattle.cargo_toml_answers.proofs.Adding.{one, then}
use Rattle.cargo_toml_answers.proofs.listing.DepActionPut.put.Goals as goal

pub returns : goal.returns
returns c =
    then (one c.in_ok-begin_object.ensures) (then c.in_ok-put_member.ensures (then c.in_ok-put_member-2.ensures
    (then c.in_ok-put_member-3.ensures (one c.in_ok-end_object.ensures))))
