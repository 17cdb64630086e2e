use Rattle.std.proofs.Common.{Bor, List, ap, codes, map, subst, ◌∙◌, ◌∷◌}
use Rattle.json.specs.Token.{key}
use Rattle.serde_json.specs.Data.{array, string}
use Rattle.serde_json.specs.View.{items_of}
use Rattle.cargo_toml.specs.Action.{Text}
use Rattle.cargo_toml_answers.specs.Adding.{Adds, tokens_of}
use Rattle.cargo_toml_answers.proofs.Adding.{one, texts_values, then}
use Rattle.cargo_toml_answers.proofs.listing.FeaturePut.put.Goals as goal

pub returns : goal.returns
returns c =
    let binaries = subst (λ ds. Adds c.begin_object.new.self c.put_list.new.out (key (codes "binaries") ∷ tokens_of (array (items_of ds))))
    (texts_values c.as_slice.result.now ∙ ap (λ (ts : List (Bor Text)). map string (map (λ t. t.now) ts)) c.as_slice.ensures.value) c.in_ok-put_list.ensures in
    then (one c.in_ok-begin_object.ensures) (then binaries (then c.in_ok-put_member.ensures (then c.in_ok-put_member-2.ensures
    (then c.in_ok-put_member-3.ensures (then c.in_ok-put_member-4.ensures (then c.in_ok-put_member-5.ensures
    (then c.in_ok-put_member-6.ensures (one c.in_ok-end_object.ensures))))))))
