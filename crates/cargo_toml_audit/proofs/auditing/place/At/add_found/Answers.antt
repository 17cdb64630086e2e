use Rattle.cargo_toml_audit.proofs.Cited.{HasErrors, IsManifestIn, Manifest, Takes, Value, Virtual, [], ap, arith, base_of, belongs, entries_of, false, flat_map, foreign, found_if, found_in, gain_of, held, is_bare, is_rootless, left_keys, map, need_by, not, oddities_of, option_map_or, refl, refusal, refusals_at, rootless, string_bytes, subst, sym, ◌++◌, ◌∙◌, ◌≡◌}
use Rattle.cargo_toml_audit.proofs.Taking.{takes_both, takes_found}
use Rattle.cargo_toml_audit.proofs.auditing.place.At.add_found.Goals as goal

pub returns-then-not-counts-clause-added : goal.returns-then-not-counts-clause-added
returns-then-not-counts-clause-added g c =
    let found = c.in_ok-add_foreign.ensures.found in
    record {
      content = foreign found.0;
      is = grind (arith, c.if-not-counts.true, c.requires.within);
      takes = takes_found (option_map_or (refusal c.args.self.now.place.now) found.0 []) c.args.audit.now c.add_foreign.new.findings found.1;
      member = refl;
      needs = ap (map string_bytes) c.new.ensures.items;
    }

pub returns-clause-added : goal.returns-clause-added
returns-clause-added g c =
    let base = base_of c.args.self.now.root in
    let place = c.args.self.now.place.now in
    let old = c.args.audit.now in
    let same = c.deref-manifest.ensures in
    let errors = c.in_ok-has_errors.has_errors in
    let added = c.in_ok-add_made.ensures.added in
    let refused = takes_found (refusals_at base place c.args.is_own errors c.deref-manifest.result.now) old c.find_in.new.findings
    (c.in_ok-find_in.ensures ∙ ap (λ rows. oddities_of old.findings ++ found_in place rows) c.in_ok-rows.ensures) in
    record {
      content = belongs c.args.is_own errors c.args.held.manifest.value added.made;
      is = record {
        written = c.requires.read;
        with_package = subst (λ (x : Manifest Value). is_rootless base place x ≡ false) same (sym c.is_rootless.ensures ∙ c.if-is_rootless.false);
        within = c.requires.within;
        listed = c.if-not-counts.false;
        errors_are = subst (λ (x : Manifest Value). HasErrors x errors) same c.in_ok-has_errors.ensures.found;
        is_made = added.is_made (c.in_ok-inherits.ensures.keys ∙ ap (λ (x : Manifest Value). left_keys (held x)) same);
      };
      takes = subst (λ (x : Manifest Value). Takes (gain_of base place (belongs c.args.is_own errors x added.made)) old c.add_made.new.audit) same
          (takes_both _ _ _ _ _ refused (takes_both _ _ _ _ _ c.in_ok-inherits.ensures.takes added.takes));
      member = refl;
      needs = c.in_ok-needs.ensures ∙ ap (λ (x : Manifest Value). flat_map (need_by base place) (entries_of (held x))) same;
    }

pub returns-then-is_rootless-clause-added : goal.returns-then-is_rootless-clause-added
returns-then-is_rootless-clause-added g c =
    let m = c.deref-manifest.result.now in
    let place = c.args.self.now.place.now in
    record {
      content = rootless m;
      is = (
        (c.requires.read.0, subst (IsManifestIn c.requires.read.0) (sym c.deref-manifest.ensures) c.requires.read.1),
        sym c.is_rootless.ensures ∙ c.if-is_rootless.true,
      );
      takes = takes_found (found_if Virtual (not (is_bare m)) place) c.args.audit.now c.find_if.new.findings
          (c.in_ok-find_if.ensures ∙ ap (λ b. oddities_of c.args.audit.now.findings ++ found_if Virtual (not b) place) c.is_bare-has_tables.ensures);
      member = refl;
      needs = ap (map string_bytes) c.new-then-is_rootless.ensures.items;
    }
