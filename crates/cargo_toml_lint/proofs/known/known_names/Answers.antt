use Rattle.cargo_toml_lint.proofs.Cited.{◌∙◌, ap, false, has_key, is_name, key_of, map, map_meaning, string_bytes, true}
use Rattle.cargo_toml_lint.proofs.known.known_names.Goals as goal

pub returns-clause-names : goal.returns-clause-names
returns-clause-names g c = λ i. record {
  listed = is_name (map_meaning (λ v. map string_bytes v.items) c.args.manifest.now.features);
  dependency = λ k. (c.in_ok-set_of.ensures k ∙ ap (λ ks. has_key false (map key_of ks) k) c.as_slice.ensures.value ∙ ap (λ ks. has_key false ks k) c.in_ok-keys.ensures) i;
  optional = λ k. (c.in_ok-set_of-2.ensures k ∙ ap (λ ks. has_key true (map key_of ks) k) c.as_slice-2.ensures.value ∙ ap (λ ks. has_key true ks k) c.in_ok-keys.ensures) i;
  acted = λ k. (c.in_ok-set_of-3.ensures k ∙ ap (λ ks. has_key false (map key_of ks) k) c.as_slice-3.ensures.value ∙ ap (λ ks. has_key false ks k) c.in_ok-acted.ensures) i;
  reserved = λ k. (c.in_ok-set_of-4.ensures k ∙ ap (λ ks. has_key true (map key_of ks) k) c.as_slice-4.ensures.value ∙ ap (λ ks. has_key true ks k) c.in_ok-acted.ensures) i;
}
