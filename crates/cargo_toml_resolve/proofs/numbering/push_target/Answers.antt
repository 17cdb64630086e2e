use Rattle.{std.proofs.Common.rules, std.proofs.Common.◌≡◌, std.proofs.Common.◌≢◌, std.proofs.Common.length, std.proofs.Common.sym, std.proofs.Common.subst, cargo_toml_features.specs.Places.nth_text}
use Rattle.cargo_toml_resolve.{specs.Texts.texts_now, specs.Numbering.Gains, proofs.NumberRows.key_missing, proofs.NumberRows.key_own, proofs.NumberRows.key_put}
use Rattle.cargo_toml_resolve.proofs.numbering.push_target.Goals as goal

pub returns-in_ok-push : goal.returns-in_ok-push
returns-in_ok-push c =
    let keys = c.args.keys.now in
    let other : c.in-Some.target ≢ c.args.own = search rules in
    subst (Gains (length keys) c.args.own (λ x. nth_text (texts_now keys) x ≡ c.args.name.now) c.args.row.now.items) (sym c.in_ok-push.ensures.items)
    (key_put keys c.args.own c.requires c.args.name.now c.args.row.now.items c.in-Some.target c.in-Some.ensures.found other)

pub returns-else-ne : goal.returns-else-ne
returns-else-ne c =
    let same : c.in-Some.target ≡ c.args.own = search rules in
    key_own c.args.keys.now c.args.own c.requires c.args.name.now c.args.row.now.items c.in-Some.target c.in-Some.ensures.found same

pub returns-in_default : goal.returns-in_default
returns-in_default c = key_missing c.args.keys.now c.args.own c.requires c.args.name.now c.args.row.now.items (c.seek.ensures.missing c.in_default.is)
