use Rattle.cargo_toml_tools.proofs.Cited.{◌∙◌, refl, sym}
use Rattle.cargo_toml_tools.proofs.document.listing.row_of.Goals as goal

pub returns : goal.returns
returns g c = λ t are told. record {
  name = refl;
  is_listed = refl;
  doc = refl;
  is_default = (
    λ h. (told c.args.feature.now.key.now).0 (sym c.contains.ensures ∙ h),
    λ on. c.contains.ensures ∙ (told c.args.feature.now.key.now).1 on,
  );
  reached = c.in_ok-reach.ensures t are;
}
