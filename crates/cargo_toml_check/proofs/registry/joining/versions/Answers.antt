use Rattle.std.proofs.Common.{◌≡◌, ◌∙◌, ◌<◌, [], Some, ap, arith, bytes_eq, cond, get_or, inl, inr, is_some, length, map, option_map, string_bytes, sym, take, true}
use Rattle.std.proofs.lemmas.List.{map_more}
use Rattle.std.proofs.lemmas.List.Folds.{list_all-map, list_all_at}
use Rattle.std.specs.{BTreeMap.get_by_text, List.list_all}
use Rattle.cargo_toml.specs.Action.{Text}
use Rattle.cargo_toml_check.specs.IndexFiles.{are_of, latest, version_in, versions}
use Rattle.cargo_toml_check.proofs.Latest.{all-push, latest-more, latest-one, map_cond}
use Rattle.cargo_toml_check.proofs.registry.joining.versions.Goals as goal

pub returns-in-Err-clause-refused : goal.returns-in-Err-clause-refused
returns-in-Err-clause-refused c =
    let name = c.args.name.now in
    let lines = c.args.lines.now in
    elim c.in-Err.ensures.refused [
      | inl m ↦ inl m
      | inr none ↦ inr (list_all-map (λ l. is_some (version_in name l)) (λ t. t.now) lines ∙ list_all_at (λ t. is_some (version_in name t.now)) lines c.loop-index.index (record { ref_ptr = (0, 0); now = [] }) (omega arith) (ap is_some none))
    ]

pub loop-index-preserved : goal.loop-index-preserved
loop-index-preserved c =
    let name = c.args.name.now in
    let lines = c.args.lines.now in
    let i = c.loop-index.index in
    let h : i < length lines = omega arith in
    let line : Text = (get_or lines i (record { ref_ptr = (0, 0); now = [] })).now in
    let before = map (λ t. t.now) (take i lines) in
    let more = map_more (λ t. t.now) lines i (record { ref_ptr = (0, 0); now = [] }) h in
    let version : Text = string_bytes c.in-Ok.version in
    let all : Text = string_bytes c.in-Ok.all in
    let found : Some (version, all) ≡ version_in name line = c.in-Ok.ensures.found in
    record {
      last = λ v.
          ap (option_map string_bytes) (c.in_ok-put_last-in-Ok.ensures v)
          ∙ (map_cond string_bytes (bytes_eq version v) c.in-Ok.all (get_by_text c.loop-index.found v)
          ∙ (ap (λ o. cond (bytes_eq version v) (Some all) o) (c.loop-index.invariant.last v)
          ∙ (latest-one (version_in name line) version all v (latest (versions name before) v) found
          ∙ (sym (latest-more (version_in name) before line v)
          ∙ ap (λ ls. latest (versions name ls) v) (sym more)))));
      whole = ap (are_of name) more ∙ all-push (λ l. is_some (version_in name l)) before line c.loop-index.invariant.whole (sym (ap is_some found));
    }
