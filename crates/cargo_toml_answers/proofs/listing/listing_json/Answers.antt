use Rattle.std.proofs.Common.{[], codes, refl, string_bytes, ◌∷◌, ◌≡◌}
use Rattle.std.proofs.lemmas.Result.{IfOk-weaker}
use Rattle.serde_json.specs.Data.{Data, boolean, no_members, object}
use Rattle.serde_json.specs.Written.{compact_text}
use Rattle.cargo_toml_check.specs.Listed.{IsListing}
use Rattle.cargo_toml_tools.specs.IndexEntries.{with_rows}
use Rattle.cargo_toml_answers.proofs.Adding.{one, text_is, then}
use Rattle.cargo_toml_answers.proofs.listing.listing_json.Goals as goal

pub returns : goal.returns
returns g c =
    let left = c.in_ok-put_found.ensures in
    let removed = c.in_ok-put_found-2.ensures in
    let all = object (with_rows ((codes "cut", boolean c.args.cut) ∷ (codes "features", left.0) ∷ (codes "hidden", removed.0) ∷ []) no_members) in
    let written = text_is c.text_of.result _ _ all c.in_ok-out.ensures.before c.in_ok-out.ensures.tokens
    (then (one c.in_ok-begin_object.ensures) (then c.in_ok-put_member.ensures (then (one c.in_ok-key.ensures) (then left.1.1
    (then (one c.in_ok-key-2.ensures) (then removed.1.1 (one c.in_ok-end_object.ensures))))))) c.text_of.ensures in
    IfOk-weaker c.text_of.result _ (λ json. (all : Data) × (IsListing c.args.cut c.args.features.now all × (string_bytes json ≡ compact_text all)))
    (λ json is. (all, (record { features = left.0; each = left.1.0; hidden = removed.0; removed = removed.1.0; whole = refl }, is))) written
