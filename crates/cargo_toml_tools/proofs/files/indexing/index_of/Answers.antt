use Rattle.cargo_toml_tools.proofs.Cited.{◌∙◌, ◌≡◌, ap, arith, Bor, err_from_is_err_and, held, IfSome, index_data, None, Option, option_copied, option_map, option_map_or, option_or, refl, rules, Some, string_bytes, subst, Text, view, wanted_of}
use Rattle.cargo_toml_tools.proofs.files.indexing.index_of.Goals as goal

or_copied : {A : Type 0} (o p : Option (Bor A)) → option_copied (option_or o p) ≡ option_or (option_copied o) (option_copied p)
or_copied None p = refl
or_copied (Some x) p = refl

-- the package of a manifest that an index takes has this name
named_so : {P R : Type 0} (name : P → Text) (test : P → Option R) (r : R) (o : Option P) (n : Text)
    → option_map_or test o (Some r) ≡ None → IfSome (option_map name o) (λ x. x ≡ n)
    → option_map name o ≡ Some n
named_so name test r None n taken is = grind arith
named_so name test r (Some p) n taken is = ap Some is

pub returns-in_err-held-clause-refused : goal.returns-in_err-held-clause-refused
returns-in_err-held-clause-refused g c = search (rules, err_from_is_err_and)

pub returns-in_err-findings-clause-refused : goal.returns-in_err-findings-clause-refused
returns-in_err-findings-clause-refused g c = search (rules, err_from_is_err_and)

pub returns-in_err-entry-clause-refused : goal.returns-in_err-entry-clause-refused
returns-in_err-entry-clause-refused g c =
    let p = err_from_is_err_and c.from_residual-in_err-entry.result c.from_residual-in_err-entry.ensures.1 in
    rw (p.1, p.2) (record {
      manifest = c.deref-manifest.result.now;
      findings = c.as_slice.result.now;
      looked_at = record {
        completed = rw c.deref-manifest.ensures c.in_ok-held.ensures.completed;
        found = rw c.as_slice.ensures.value c.in_ok-findings.ensures.found;
      };
      told_so = c.in_err-entry.ensures.refused;
    })

pub returns-clause-printed : goal.returns-clause-printed
returns-clause-printed g c = record {
  manifest = c.deref-manifest.result.now;
  findings = c.as_slice.result.now;
  looked_at = record {
    completed = rw c.deref-manifest.ensures c.in_ok-held.ensures.completed;
    found = rw c.as_slice.ensures.value c.in_ok-findings.ensures.found;
  };
  taken = c.in_ok-entry.ensures.taken;
  named = named_so _ _ _ _ _ c.in_ok-entry.ensures.taken c.in_ok-name.ensures;
  line = view c.in_ok-entry.entry;
  is =
      subst (λ s. Some (view c.in_ok-entry.entry) ≡ index_data (record (wanted_of c.args.options) { checksum = s }) c.args.source.text.now (held c.deref-manifest.result.now))
      (ap option_copied c.or-checksum.ensures ∙ or_copied _ _ ∙ ap (option_or (option_copied c.args.options.checksum)) c.in_ok-found.ensures)
      c.in_ok-entry.ensures.entry;
  spelled = string_bytes c.in_ok-line.line;
  exact = c.in_ok-line.ensures.order;
  ended = c.in_ok-push_str.ensures.bytes;
}
