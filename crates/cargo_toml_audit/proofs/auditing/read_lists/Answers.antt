use Rattle.cargo_toml_audit.proofs.Cited.{[], ap, base_of, entered_places, filter, flat_map, found_in_lists, is_excluded, is_in, listed_places, map, map-append, not, oddities_of, places_once, string_bytes, ◌++◌, ◌∙◌, ◌∷◌, ◌≡◌}
use Rattle.cargo_toml_audit.proofs.auditing.read_lists.Goals as goal

pub returns-clause-listed : goal.returns-clause-listed
returns-clause-listed g c = λ d agrees.
    let base = base_of c.args.root in
    let all = c.in_ok-all.ensures.told d agrees in
    let listed : map string_bytes c.in_ok-all.all.items ≡ listed_places base d =
    all.1 ∙ ap (λ es. flat_map (places_once d base.place) (map string_bytes es)) c.as_slice.ensures.value in
    let taken = ap (map string_bytes) c.as_slice-2.ensures.value ∙ listed in
    let entered : map string_bytes c.in_ok-first.first.items ≡ entered_places base d =
    c.in_ok-first.ensures ∙ ap (filter (λ p. not (is_excluded base p))) taken in (
      all.0,
      record {
        first = ap (map string_bytes) c.in_ok-push.ensures.items ∙ map-append string_bytes c.in_ok-first.first.items _ ∙ (λ i. entered i ++ c.in_ok-from_str.ensures.ok i ∷ []);
        listed = λ t. c.in_ok-set_of.ensures t ∙ ap (λ ts. is_in ts t) (ap (map string_bytes) c.as_slice-4.ensures.value ∙ listed);
        entered = λ t. c.in_ok-set_of-2.ensures t ∙ ap (λ ts. is_in ts t) (ap (map string_bytes) c.as_slice-5.ensures.value ∙ entered);
        found = c.in_ok-find_in_lists.ensures ∙ ap (λ ps. oddities_of c.args.findings.now ++ found_in_lists base ps) (ap (map string_bytes) c.as_slice-3.ensures.value ∙ entered);
      },
    )
