use Rattle.cargo_toml_write.proofs.Writers.{◌∙◌, ap, chain, detail_at-map, detail_of, detail_under, ends, map, map_meaning, option_map, string_bytes, sym, told_rows}
use Rattle.cargo_toml_write.proofs.write.dependency.feature_value.Goals as goal

pub returns-in_default : goal.returns-in_default
returns-in_default c =
    let said = ap (option_map detail_of) c.get.ensures.value ∙ sym (detail_at-map c.as_str.result.now c.args.details.now) ∙ ap (λ n. detail_under n (map_meaning detail_of c.args.details.now)) c.as_str.ensures.value in
    rw (← said, c.in_default.is) c.to_value.ensures

pub returns : goal.returns
returns c =
    let said = ap (option_map detail_of) c.get.ensures.value ∙ sym (detail_at-map c.as_str.result.now c.args.details.now) ∙ ap (λ n. detail_under n (map_meaning detail_of c.args.details.now)) c.as_str.ensures.value in
    rw (← said, c.in-Some.is) (ends told_rows (map string_bytes c.args.enables.now.items, detail_of c.in-Some.detail.now) c.finish.result c.new-writing.ensures.no_fault c.new-writing.ensures.no_key c.finish.ensures (search chain depth 80 fits 4000))
