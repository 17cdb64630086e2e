use Rattle.std.proofs.Common.{◌∙◌, ◌≡◌, None, ap, not, subst, sym}
use Rattle.cargo_toml_bench.proofs.Resolving.{answers, some_is}
use Rattle.{cargo_toml_features.specs.Views.value_at, cargo_toml_graph.specs.Action.Text, cargo_toml_graph.specs.Ascending.Ascend}
use Rattle.{cargo_toml_graph.specs.Removal.lists_text, cargo_toml_resolve.specs.Texts.texts_now}
use Rattle.cargo_toml_bench.proofs.plain.without_hidden.Goals as goal

pub returns : goal.returns
returns g c = λ listed entries details own keep tells whole.
    let empty : (r : Text) → value_at c.with_hasher-hidden.result r ≡ None = λ r. rw c.with_hasher-hidden.ensures.empty in
    answers listed entries details own c.args.whole whole keep (texts_now c.as_slice-all.result.now) (texts_now c.as_slice-gone.result.now)
    (λ f. ap (λ ks. lists_text (texts_now ks) f) c.as_slice-all.ensures.value ∙ c.in_ok-names.ensures.all f)
    (subst (λ ks. Ascend (texts_now ks)) (sym c.as_slice-all.ensures.value) c.in_ok-names.ensures.ascending)
    (ap texts_now c.as_slice-gone.ensures.value ∙ c.in_ok-removed.ensures keep tells)
    c.remove_all.new.features c.with_hasher-hidden.result c.remove_all.new.hidden empty (not c.is_empty.result)
    (some_is c.is_empty.result c.as_slice-gone.result.now c.is_empty.ensures) c.in_ok-remove_all.ensures
