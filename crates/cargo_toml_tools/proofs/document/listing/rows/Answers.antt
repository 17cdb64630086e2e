use Rattle.cargo_toml_tools.proofs.Cited.{[], ◌↔◌, ◌∙◌, ◌≡◌, Among, ap, Ascend, Bor, codes, drop_all, get_or, IsTrue, key_of, listed_in, lists_default, manifest_meaning, map, option_copied, string_bytes, subst, sym, Table, table_in, Text, told_at, turning}
use Rattle.cargo_toml_tools.proofs.Grown.{drop_next}
use Rattle.cargo_toml_tools.proofs.Rowed.{is_there, rowed_all, rowed_none, rowed_one}
use Rattle.cargo_toml_tools.proofs.document.listing.rows.Goals.{in-Some+in_ok-row_of+in_ok-push, in_default}
use Rattle.cargo_toml_tools.proofs.document.listing.rows.Goals as goal

pub loop-name-preserved : goal.loop-name-preserved
loop-name-preserved g c = λ keyed.
    let d = manifest_meaning (λ m. m) c.args.manifest.now in
    let m = c.args.features.now in
    let t : Table = turning d (table_in m).has in
    let has = lists_default d in
    let items = c.deref-name-items.result.now in
    let none : Bor Text = record { ref_ptr = (0, 0); now = [] } in
    let k : Bor Text = get_or items c.loop-name.name-index none in
    let next = ap (map (λ (q : Bor Text). q.now)) (drop_next items c.loop-name.name-index none c.loop-name-test.true) in
    let told_is : option_copied c.told_at.result ≡ told_at m has k.now =
    c.told_at.ensures ∙ ap (λ b. told_at m b k.now) (c.contains_key-has_default.ensures
    ∙ listed_in (λ v. map string_bytes v.items) (codes "default") c.args.manifest.now.features.entries) in
    elim c.match-told_at.branch [
      | in-Some+in_ok-row_of+in_ok-push w ↦
          let at = sym told_is ∙ ap option_copied w.in-Some.is in
          let tells = w.in_ok-row_of.ensures t c.in_ok-links.ensures (c.in_ok-defaults.ensures t c.in_ok-links.ensures) in
          rowed_one t m has _ k.now _ _ next _ _ c.loop-name.rows.items c.match-told_at.rows.items
          (ap (λ v. v.items) w.rows-is ∙ w.in_ok-push.ensures.items)
          (tells.name ∙ key_of m keyed _ _ (is_there t m has _ _ at)) at tells (c.loop-name.invariant keyed)
      | in_default w ↦
          rowed_none t m has _ k.now _ _ next c.match-told_at.rows.items
          (sym told_is ∙ ap option_copied w.in_default.is)
          (rw w.rows-is (c.loop-name.invariant keyed))
    ]

pub returns : goal.returns
returns g c = λ keyed.
    let d = manifest_meaning (λ m. m) c.args.manifest.now in
    let m = c.args.features.now in
    let links = c.in_ok-links.ensures in
    let same = ap (map (λ (q : Bor Text). q.now)) c.deref-name-items.ensures.value in
    rowed_all (turning d (table_in m).has) m (lists_default d) _ _ c.loop-name.rows.items
    (ap (map (λ (q : Bor Text). q.now)) (drop_all c.loop-name.name-index c.deref-name-items.result.now c.loop-name-test.false))
    (subst Ascend (sym same) links.found.in_order)
    (λ x. subst (λ ts. IsTrue ((table_in m).has x) ↔ Among ts x) (sym same) (links.known x)) (c.loop-name.invariant keyed)
