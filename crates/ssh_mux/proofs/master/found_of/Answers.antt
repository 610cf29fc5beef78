use Rattle.std.proofs.Common.{refl}
use Rattle.conf_rules.specs.declared.command.Command.TheVariants as commands
use Rattle.std.proofs.lemmas.Result.{err_from_is_err_and}
use Rattle.ssh_mux.proofs.CauseLemmas.{all-ran, refused-cause, refused-runs, resolved-runs, unlisted-cause}
use Rattle.ssh_mux.proofs.JoinLemmas.{client-found, client-refused, client-unlisted, client-unset}
use Rattle.ssh_mux.proofs.PlaceLemmas.{failed-place, unlisted-place, unset-place}
use Rattle.ssh_mux.proofs.ReadLemmas.{all-read, refused-reads, resolved-reads}
use Rattle.ssh_mux.proofs.RefusalLemmas.{master-refused, path-found, path-unlisted, path-unset}
use Rattle.ssh_mux.proofs.StartLemmas.{settled-for}
use Rattle.ssh_mux.proofs.master.found_of.Goals as goal

pub returns-in_err-settings-clause-master : goal.returns-in_err-settings-clause-master
returns-in_err-settings-clause-master g c = λ transport ps. let p = err_from_is_err_and c.from_residual.result c.from_residual.ensures.1 in rw (p.1, p.2) (record {
  exact = master-refused (g.F.Files.recorded c.args.files.now) (g.R.Runner.recorded c.args.runner.now) c.args.facts.now c.args.asked.now transport ps _ c.in_err-settings.ensures.exact;
  ran = refused-runs (g.F.Files.recorded c.args.files.now) (g.R.Runner.recorded c.args.runner.now) c.args.facts.now c.args.asked.now (commands.Master c.args.asked.now transport ps) _ _ _ (λ m. refl) c.in_err-settings.ensures.ran;
  read = refused-reads (g.F.Files.recorded c.args.files.now) (g.R.Runner.recorded c.args.runner.now) c.args.facts.now c.args.asked.now _ _ _ c.in_err-settings.ensures.noted;
  place = failed-place (g.F.Files.recorded c.args.files.now) (g.R.Runner.recorded c.args.runner.now) c.args.facts.now c.args.asked.now _ _ _ _ _ c.in_err-settings.ensures.fault;
  cause = refused-cause _ _ _ _ _ c.in_err-settings.ensures.cause;
})

pub returns-in_err-found-clause-master : goal.returns-in_err-found-clause-master
returns-in_err-found-clause-master g c = λ transport ps. let p = err_from_is_err_and c.from_residual-in_err-found.result c.from_residual-in_err-found.ensures.1 in rw (p.1, p.2) (record {
  exact = path-unlisted (g.F.Files.recorded c.args.files.now) (g.R.Runner.recorded c.args.runner.now) c.args.facts.now c.args.asked.now transport ps _ _ c.in_ok-settings.ensures.exact (rw c.as_bytes.ensures at c.in_err-found.ensures.exact);
  ran = all-ran (tt {0}) _ _ _ _ (resolved-runs (tt {0}) (g.F.Files.recorded c.args.files.now) (g.R.Runner.recorded c.args.runner.now) c.args.facts.now c.args.asked.now (commands.Master c.args.asked.now transport ps) _ _ (λ m. refl) c.in_ok-settings.ensures.ran);
  read = all-read (tt {0}) _ _ _ _ (resolved-reads (tt {0}) (g.F.Files.recorded c.args.files.now) (g.R.Runner.recorded c.args.runner.now) c.args.facts.now c.args.asked.now _ _ c.in_ok-settings.ensures.noted);
  place = unlisted-place _ _ _ _ _ _;
  cause = unlisted-cause _ _ _ _ _ c.in_ok-settings.ensures.cause;
})

pub returns-in-Some-clause-master : goal.returns-in-Some-clause-master
returns-in-Some-clause-master g c = λ transport ps. record {
  exact = path-found (g.F.Files.recorded c.args.files.now) (g.R.Runner.recorded c.args.runner.now) c.args.facts.now c.args.asked.now transport ps _ _ c.in_ok-settings.ensures.exact (rw (c.as_bytes.ensures, c.in-Some.is) at c.in_ok-found.ensures.exact);
  ran = resolved-runs _ (g.F.Files.recorded c.args.files.now) (g.R.Runner.recorded c.args.runner.now) c.args.facts.now c.args.asked.now (commands.Master c.args.asked.now transport ps) _ _ (λ m. refl) c.in_ok-settings.ensures.ran;
  read = resolved-reads _ (g.F.Files.recorded c.args.files.now) (g.R.Runner.recorded c.args.runner.now) c.args.facts.now c.args.asked.now _ _ c.in_ok-settings.ensures.noted;
  place = tt;
  cause = c.in_ok-settings.ensures.cause;
}

pub returns-in-None-clause-master : goal.returns-in-None-clause-master
returns-in-None-clause-master g c = λ transport ps. record {
  exact = path-unset (g.F.Files.recorded c.args.files.now) (g.R.Runner.recorded c.args.runner.now) c.args.facts.now c.args.asked.now transport ps _ c.in_ok-settings.ensures.exact (rw (c.as_bytes.ensures, c.in-None.is) at c.in_ok-found.ensures.exact);
  ran = all-ran (tt {0}) _ _ _ _ (resolved-runs (tt {0}) (g.F.Files.recorded c.args.files.now) (g.R.Runner.recorded c.args.runner.now) c.args.facts.now c.args.asked.now (commands.Master c.args.asked.now transport ps) _ _ (λ m. refl) c.in_ok-settings.ensures.ran);
  read = all-read (tt {0}) _ _ _ _ (resolved-reads (tt {0}) (g.F.Files.recorded c.args.files.now) (g.R.Runner.recorded c.args.runner.now) c.args.facts.now c.args.asked.now _ _ c.in_ok-settings.ensures.noted);
  place = unset-place _ _ _ _ _;
  cause = c.in_ok-settings.ensures.cause;
}

pub returns-in_err-settings-clause-client : goal.returns-in_err-settings-clause-client
returns-in_err-settings-clause-client g c = λ what. let p = err_from_is_err_and c.from_residual.result c.from_residual.ensures.1 in rw (p.1, p.2) (record {
  exact = client-refused (g.F.Files.recorded c.args.files.now) (g.R.Runner.recorded c.args.runner.now) c.args.facts.now c.args.asked.now what _ c.in_err-settings.ensures.exact;
  ran = refused-runs (g.F.Files.recorded c.args.files.now) (g.R.Runner.recorded c.args.runner.now) c.args.facts.now c.args.asked.now (commands.Control c.args.asked.now what) _ _ _ (λ m. refl) c.in_err-settings.ensures.ran;
  read = refused-reads (g.F.Files.recorded c.args.files.now) (g.R.Runner.recorded c.args.runner.now) c.args.facts.now c.args.asked.now _ _ _ c.in_err-settings.ensures.noted;
  place = failed-place (g.F.Files.recorded c.args.files.now) (g.R.Runner.recorded c.args.runner.now) c.args.facts.now c.args.asked.now _ _ _ _ _ c.in_err-settings.ensures.fault;
  cause = refused-cause _ _ _ _ _ c.in_err-settings.ensures.cause;
})

pub returns-in_err-found-clause-client : goal.returns-in_err-found-clause-client
returns-in_err-found-clause-client g c = λ what. let p = err_from_is_err_and c.from_residual-in_err-found.result c.from_residual-in_err-found.ensures.1 in rw (p.1, p.2) (record {
  exact = client-unlisted (g.F.Files.recorded c.args.files.now) (g.R.Runner.recorded c.args.runner.now) c.args.facts.now c.args.asked.now what _ _ c.in_ok-settings.ensures.exact (rw c.as_bytes.ensures at c.in_err-found.ensures.exact);
  ran = all-ran (tt {0}) _ _ _ _ (resolved-runs (tt {0}) (g.F.Files.recorded c.args.files.now) (g.R.Runner.recorded c.args.runner.now) c.args.facts.now c.args.asked.now (commands.Control c.args.asked.now what) _ _ (λ m. refl) c.in_ok-settings.ensures.ran);
  read = all-read (tt {0}) _ _ _ _ (resolved-reads (tt {0}) (g.F.Files.recorded c.args.files.now) (g.R.Runner.recorded c.args.runner.now) c.args.facts.now c.args.asked.now _ _ c.in_ok-settings.ensures.noted);
  place = unlisted-place _ _ _ _ _ _;
  cause = unlisted-cause _ _ _ _ _ c.in_ok-settings.ensures.cause;
})

pub returns-in-Some-clause-client : goal.returns-in-Some-clause-client
returns-in-Some-clause-client g c = λ what. record {
  exact = client-found (g.F.Files.recorded c.args.files.now) (g.R.Runner.recorded c.args.runner.now) c.args.facts.now c.args.asked.now what _ _ c.in_ok-settings.ensures.exact (rw (c.as_bytes.ensures, c.in-Some.is) at c.in_ok-found.ensures.exact);
  ran = resolved-runs _ (g.F.Files.recorded c.args.files.now) (g.R.Runner.recorded c.args.runner.now) c.args.facts.now c.args.asked.now (commands.Control c.args.asked.now what) _ _ (λ m. refl) c.in_ok-settings.ensures.ran;
  read = resolved-reads _ (g.F.Files.recorded c.args.files.now) (g.R.Runner.recorded c.args.runner.now) c.args.facts.now c.args.asked.now _ _ c.in_ok-settings.ensures.noted;
  place = tt;
  cause = c.in_ok-settings.ensures.cause;
}

pub returns-in-None-clause-client : goal.returns-in-None-clause-client
returns-in-None-clause-client g c = λ what. record {
  exact = client-unset (g.F.Files.recorded c.args.files.now) (g.R.Runner.recorded c.args.runner.now) c.args.facts.now c.args.asked.now what _ c.in_ok-settings.ensures.exact (rw (c.as_bytes.ensures, c.in-None.is) at c.in_ok-found.ensures.exact);
  ran = all-ran (tt {0}) _ _ _ _ (resolved-runs (tt {0}) (g.F.Files.recorded c.args.files.now) (g.R.Runner.recorded c.args.runner.now) c.args.facts.now c.args.asked.now (commands.Control c.args.asked.now what) _ _ (λ m. refl) c.in_ok-settings.ensures.ran);
  read = all-read (tt {0}) _ _ _ _ (resolved-reads (tt {0}) (g.F.Files.recorded c.args.files.now) (g.R.Runner.recorded c.args.runner.now) c.args.facts.now c.args.asked.now _ _ c.in_ok-settings.ensures.noted);
  place = unset-place _ _ _ _ _;
  cause = c.in_ok-settings.ensures.cause;
}

pub returns-in-Some-clause-settled : goal.returns-in-Some-clause-settled
returns-in-Some-clause-settled g c = settled-for (g.F.Files.recorded c.args.files.now) (g.R.Runner.recorded c.args.runner.now) c.args.facts.now c.args.asked.now _ c.in_ok-settings.ensures.exact
