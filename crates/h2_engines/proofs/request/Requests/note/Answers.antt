-- What was handed out of a request is kept.
use Rattle.h2_engines.proofs.Names.{None, Some, refl, EndsRequest, NotesHanded}
use Rattle.h2_engines.proofs.NoteOne.{notes_other}
use Rattle.h2_engines.proofs.RequestTable.{changes_one, changes_twice}
use Rattle.h2_engines.proofs.request.Requests.note.Goals.{in-Reset, in_default}
use Rattle.h2_engines.proofs.request.Requests.note.Goals.{
  in-Head+in_ok-request-in-Head+else-end+in_ok-insert-in-Head,
}
use Rattle.h2_engines.proofs.request.Requests.note.Goals as goal

pub returns-then-end : goal.returns-then-end
unfolding NotesHanded EndsRequest
returns-then-end c =
    rw (c.in-Head.is, c.if-end.true) (
      c.in_ok-request-in-Head.request,
      c.in_ok-request-in-Head.ensures,
      (refl, changes_one c.args.self.now _ c.in-Head.id None c.remove.ensures.updates),
    )

pub returns-in-Body : goal.returns-in-Body
unfolding NotesHanded
returns-in-Body c = rw c.in-Body.is c.add.ensures

pub returns-in-Trailers : goal.returns-in-Trailers
unfolding NotesHanded
returns-in-Trailers c = rw c.in-Trailers.is c.end.ensures

pub returns : goal.returns
unfolding NotesHanded EndsRequest
returns c =
    elim c.match-event.branch [
      | in-Head+in_ok-request-in-Head+else-end+in_ok-insert-in-Head w ↦
          rw (w.self-is, w.in-Head.is, w.if-end.false) (
            w.in_ok-request-in-Head.request,
            w.in_ok-request-in-Head.ensures,
            (
              refl,
              changes_twice (changes_one c.args.self.now
                  (record c.args.self.now { kept = w.remove.new.self }) w.in-Head.id None
                  w.remove.ensures.updates)
                  (changes_one (record c.args.self.now { kept = w.remove.new.self }) _ w.in-Head.id
                  (Some w.in_ok-request-in-Head.request)
                  w.in_ok-insert-in-Head.ensures.updates),
            ),
          )
      | in-Reset w ↦ rw (w.self-is, w.in-Reset.is) (
        refl,
        changes_one c.args.self.now _
            w.in-Reset.id None w.remove-in-Reset.ensures.updates,
      )
      | in_default w ↦ rw w.self-is (notes_other c.args.self.now c.args.event w.in_default.not-Head
          w.in_default.not-Body w.in_default.not-Trailers w.in_default.not-Reset)
    ]
