pub mod CallMeaning
