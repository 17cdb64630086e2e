use Rattle.cargo_toml_package.proofs.Cited.{Detail, List, Some, ap, as_array, as_str, blames, err_from_is_err_and, map, of_array, option_map, plain_detail, string_bytes, sym, view, ℕ, ◌∙◌}
use Rattle.cargo_toml_package.proofs.feature.of_list.Goals as goal

pub returns-in_err-enables : goal.returns-in_err-enables
returns-in_err-enables c =
    let p = err_from_is_err_and c.from_residual.result c.from_residual.ensures.1 in
    rw (p.1, p.2) (blames c.in_err-enables.ensures.reads (λ none. ap (option_map (λ (enables : List (List ℕ)). (enables, plain_detail))) none)
    (λ fault. of_array as_str (as_array (view c.args.value)) _ fault))

pub returns : goal.returns
returns c =
    ap (option_map (λ (enables : List (List ℕ)). (enables, plain_detail))) c.in_ok-enables.ensures.reads
    ∙ ap (λ (d : Detail). Some (map string_bytes c.in_ok-enables.enables.items, d)) (sym c.default.ensures)
