-- What an edit that reaches one host changes.
use Rattle.std.proofs.Common.{◌≡◌, List, ℕ, Some, refl}
use Rattle.config_lists.specs.declared.edit.Edit.{Edit}
use Rattle.config_lists.specs.declared.edit.Edit.TheVariants.{SubsystemAdd, SubsystemSet, SubsystemDel, NamespaceAdd, NamespaceSize, NamespaceGroup, NamespaceDel, NamespaceView, NamespaceShow, NamespaceHide, PortAdd, PortSet, PortDel, LinkAdd, LinkDel, HostAdd, HostDel, AllowAdd, AllowDel, AnaSet, ReferralAdd, ReferralSet, ReferralDel}
use Rattle.nvt_config.specs.Accept.{effect}
use Rattle.nvt_config.specs.Configuration.{Configuration}
use Rattle.nvt_config.proofs.Refusals.{IfOk-effect}
use Rattle.nvt_config.specs.Reach.{host_reached}
use Rattle.nvt_config.specs.Seen.{ChangesShowsAlone, shows_made}

makes : (c : Configuration) (edit : Edit) (host : List ℕ) → host_reached edit ≡ Some host → effect c edit ≡ record c { shows = shows_made c edit }
makes c (NamespaceShow nqn nsid h) host is = refl
makes c (NamespaceHide nqn nsid h) host is = refl
makes c (SubsystemAdd nqn serial access) host is = cc
makes c (SubsystemSet nqn access) host is = cc
makes c (SubsystemDel nqn) host is = cc
makes c (NamespaceAdd n) host is = cc
makes c (NamespaceSize nqn nsid blocks) host is = cc
makes c (NamespaceGroup nqn nsid group) host is = cc
makes c (NamespaceDel nqn nsid) host is = cc
makes c (NamespaceView nqn nsid visibility) host is = cc
makes c (PortAdd e) host is = cc
makes c (PortSet e) host is = cc
makes c (PortDel id) host is = cc
makes c (LinkAdd port nqn) host is = cc
makes c (LinkDel port nqn) host is = cc
makes c (HostAdd nqn) host is = cc
makes c (HostDel nqn) host is = cc
makes c (AllowAdd nqn h) host is = cc
makes c (AllowDel nqn h) host is = cc
makes c (AnaSet port nqn group state) host is = cc
makes c (ReferralAdd e) host is = cc
makes c (ReferralSet e) host is = cc
makes c (ReferralDel id) host is = cc

pub changes_shows_alone : (c : Configuration) (edit : Edit) → ChangesShowsAlone c edit (shows_made c edit)
changes_shows_alone c edit = IfOk-effect c edit (λ next. (host : List ℕ) → host_reached edit ≡ Some host → next ≡ record c { shows = shows_made c edit }) (makes c edit)
